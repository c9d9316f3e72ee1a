-- What a one-way link's sends wait for, as its records are written: the records of the link before stand as they did. Assumes nothing.
use Rattle.std.proofs.Common.{◌≡◌, refl, sym, ap, ◌∙◌, Bool, true, false, List, ◌++◌, ◌⊎◌, inl, inr, ℕ, zero, suc, ◌+◌, ◌*◌, ◌-◌, ◌≤◌, ◌<◌, max, arith, ltb, length, take, drop, length-append}
use lib.Seq.{length-take-le}
use borrow.Author.Tests.{ltb-false, lt-ltb}
use Rattle.ring.specs.Numbers.{pick}
use Rattle.ring.specs.Bytes.{word_at}
use Rattle.hop.proofs.Grow.{Begins}
use Rattle.planner.specs.declared.links.Feed.{Feed}
use Rattle.planner.specs.declared.links.Place.{Place}
use Rattle.planner.specs.Links.{arrives_in, start_fed, Fed}
use Rattle.planner.proofs.Parts.{part, laid, part_before, part_after, word_in}

-- bytes from place `from` on were written, up to place `to`: a number outside them is as it was
word_unwritten : (xs q now : List ℕ) (from to : ℕ) → Begins xs (take from xs ++ q) to now → from ≤ to → to ≤ length xs
    → (k : ℕ) → (k + 4 ≤ from) ⊎ (to ≤ k) → word_at now k ≡ word_at xs k
word_unwritten xs q now from to b on room k h =
    let size = to - from in
    let long : length (take from xs) + length q ≡ to = sym (length-append (take from xs) q) ∙ b.long in
    let up : from + size ≡ to = omega (arith, long, length-take-le from xs (omega arith)) in
    let few : length q ≡ size = omega (arith, long, length-take-le from xs (omega arith)) in
    let fits : from + size ≤ length xs = omega (arith, up) in
    let is : now ≡ laid xs q from size few fits = b.is ∙ ap (λ (n : ℕ). (take from xs ++ q) ++ drop n xs) (sym up) in
    let same : part now k 4 ≡ part xs k 4 =
    ap (λ (l : List ℕ). part l k 4) is
    ∙ elim h [ inl p ↦ part_before xs q from size few fits k 4 p | inr p ↦ part_after xs q from size few fits k 4 (omega (arith, up)) ] in
    let e : k + 0 ≡ k = omega arith in
    rw (← e) (word_in now (part xs k 4) k 4 0 same (omega arith) ∙ sym (word_in xs (part xs k 4) k 4 0 refl (omega arith)))

-- while the records of a link are written, up to that of send x, those that its sends wait for are there
module _ (xs : List ℕ) (here : Place) (count x : ℕ) (feed : Feed) (fed : Fed xs here count feed) (more : x < count) where
  pub arrives_same : (q now : List ℕ) (to : ℕ) → to ≡ here.at + 6 * x → Begins xs (take here.at xs ++ q) to now → arrives_in now feed x ≡ arrives_in xs feed x
  arrives_same q now to up b = go (ltb x feed.load) refl
    where
      at : ℕ
      at = feed.from + 6 * (x - feed.load) + 2

      go : (t : Bool) → ltb x feed.load ≡ t → pick t 0 (word_at now at + feed.cost) ≡ pick t 0 (word_at xs at + feed.cost)
      go true e = refl
      go false e =
          let l : feed.load ≤ x = ltb-false x feed.load e in
          let away : (at + 4 ≤ here.at) ⊎ (to ≤ at) =
          elim fed.apart [ inl p ↦ inl (omega arith) | inr p ↦ inr (omega arith) ] in
          ap (λ (w : ℕ). w + feed.cost) (word_unwritten xs q now here.at to b (omega arith) (omega (arith, fed.room)) at away)

-- when the send before send x has ended, 0 where there is none
abbrev pub free_at : (ℕ → ℕ) → ℕ → ℕ → ℕ
free_at arrives cost x = pick (ltb 0 x) (start_fed arrives cost (x - 1) + cost) 0

pub start_is : (arrives : ℕ → ℕ) (cost x : ℕ) → max (free_at arrives cost x) (arrives x) ≡ start_fed arrives cost x
unfolding start_fed
start_is arrives cost zero = omega arith
start_is arrives cost (suc x) =
    let e : suc x - 1 ≡ x = omega arith in
    rw (lt-ltb 0 (suc x) (omega arith), e) refl
