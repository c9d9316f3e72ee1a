-- The levels that an accepted job's surpluses lead to, from the total of its loads on, are those of its ring's links. Assumes nothing.
use Rattle.std.proofs.Common.{◌≡◌, refl, sym, ap, ◌∙◌, List, [], ◌∷◌, ◌++◌, ℕ, zero, suc, ◌+◌, ◌*◌, ◌-◌, ◌≤◌, ◌<◌, ◌^◌, zero-add, arith, add-one, inl, inr, ℤ, pos, nat_abs, ◌+ℤ◌, ◌-ℤ◌, neg_ℤ, length, take, drop, get_or, length-append}
use lib.IntN.{+ℤ_assoc, +ℤ-neg_ℤ_cancel}
use lib.Signed.{mag}
use mir.Syntax.{w16}
use mir.Val.{to_z, of_z}
use mir.Facts.{to_z-of_z}
use lib.ListN.{get_or-append}
use lib.Seq.{drop-cons, get_or-append-add}
use Rattle.std.specs.List as list
use Rattle.std.proofs.lemmas.List.Sums.{sum_by_more}
use Rattle.ring.specs.Numbers.{sum}
use Rattle.ring.specs.Lists.{each, each_ℤ, joined, up_to}
use Rattle.ring.specs.Boards.{Ring, ring_in, prev, most_load}
use Rattle.ring.specs.Plan.{level, surplus_size}
use Rattle.ring.proofs.Level.{size_is}
use Rattle.ring.proofs.Sums.{sum_mono}
use Rattle.ring.proofs.Tests.{le_lt}
use Rattle.ring.proofs.Bounds.{items_most}
use Rattle.ring.proofs.Signed.{taken_off}
use Rattle.planner.specs.Lent.{Lent}
use Rattle.planner.specs.Levels.{raised, levels_from}

-- the sum of the first of a list's numbers
pub sum_taken : (xs : List ℕ) (n : ℕ) → n ≤ length xs → list.sum (take n xs) ≡ sum (each xs) n
unfolding sum
sum_taken xs zero h = refl
sum_taken xs (suc n) h = omega (arith, sum_taken xs n (omega arith), rw add-one at (sum_by_more (λ x. x) xs n 0 (omega arith)))

-- what a board's surplus leads to from b: what its load and its load after lead to
pub gained : (a b load after : ℕ) (s : ℤ) → a + after ≡ b + load → pos after ≡ pos load -ℤ s → pos a ≡ pos b +ℤ s
gained a b load after s e is =
    sym (+ℤ-neg_ℤ_cancel (pos a) (pos after))
    ∙ ap (λ (n : ℕ). pos n -ℤ pos after) e
    ∙ +ℤ_assoc (pos b) (pos load) (neg_ℤ (pos after))
    ∙ ap (λ (z : ℤ). pos b +ℤ z) (taken_off (pos load) s (pos after) is)

-- the level of the link before board k, of a ring's own loads and loads after
abbrev pub under : Ring → ℕ → ℕ
under r k = sum r.load k + (sum r.after r.n - sum r.after k)

-- the values up to n: how many, the first and the others, and value i
pub up_to_long : (g : ℕ → ℕ) (n : ℕ) → length (up_to g n) ≡ n
unfolding joined
up_to_long g zero = refl
up_to_long g (suc n) = omega (arith, length-append (up_to g n) (g n ∷ []), up_to_long g n)

up_to_first : (g : ℕ → ℕ) (n : ℕ) → up_to g (suc n) ≡ g 0 ∷ up_to (λ i. g (suc i)) n
unfolding joined
up_to_first g zero = refl
up_to_first g (suc n) = ap (λ (l : List ℕ). l ++ g (suc n) ∷ []) (up_to_first g n)

pub value_at : (g : ℕ → ℕ) (d n i : ℕ) → i < n → get_or (up_to g n) i d ≡ g i
unfolding joined
value_at g d zero i h = absurd (omega arith)
value_at g d (suc k) i h =
    elim (le_lt k i) [
      | inl l ↦ let q : i ≡ length (up_to g k) + 0 = omega (arith, up_to_long g k) in let e : i ≡ k = omega arith in rw q (get_or-append-add (up_to g k) (g k ∷ []) 0 d) ∙ ap g (sym e)
      | inr l ↦ get_or-append (up_to g k) (g k ∷ []) d i (omega (arith, up_to_long g k)) ∙ value_at g d k i l
    ]

module _ {kind n : ℕ} {loads : List ℕ} {surpluses : List ℤ} {costs : List ℕ} (lent : Lent kind n loads surpluses costs) where
  abbrev r : Ring
  r = ring_in kind n loads surpluses costs

  pub leads : (k : ℕ) → k < n → pos (under r (suc k)) ≡ pos (under r k) +ℤ each_ℤ surpluses k
  unfolding sum
  leads k h =
      let e : under r (suc k) + r.after k ≡ under r k + r.load k = omega (arith, sum_mono r.after (suc k) n h) in
      gained (under r (suc k)) (under r k) (r.load k) (r.after k) (each_ℤ surpluses k) e (lent.after_is k h)

  rises : (k : ℕ) → k < n → raised (under r k) (each_ℤ surpluses k) ≡ under r (suc k)
  rises k h = ap nat_abs (sym (leads k h))

  pub few : (k : ℕ) → k ≤ n → under r k ≤ 256 * most_load
  few k h = omega (arith, sum_mono r.load k n h, lent.accepted.balanced, items_most r lent.accepted)

  from : (m k : ℕ) → k + m ≡ n → levels_from (under r k) (take m (drop k surpluses)) ≡ up_to (λ i. level r (k + i)) m
  unfolding joined level
  from zero k e = refl
  from (suc m) k e =
      let h : k < n = omega arith in
      let here : k ≡ k + 0 = omega arith in
      let on : (i : ℕ) → suc k + i ≡ k + suc i = λ i. omega arith in
      rw (drop-cons surpluses k (pos 0) (omega (arith, lent.surpluses_long)), rises k h)
      (ap (λ (l : List ℕ). under r (suc k) ∷ l) (from m (suc k) (omega arith)) ∙ (λ t. level r (here t) ∷ up_to (λ i. level r (on i t)) m) ∙ sym (up_to_first (λ i. level r (k + i)) m))

  -- before board 0 it is the total
  pub total_is : under r 0 ≡ sum (each loads) n
  unfolding sum
  total_is = omega (arith, lent.accepted.balanced)

  -- and of the last link
  pub last_level : sum (each loads) n ≡ level r (n - 1)
  unfolding level
  last_level =
      let last : n ≡ suc (n - 1) = omega (arith, lent.accepted.boards) in
      let e : sum (each loads) n ≡ under r n = omega arith in
      e ∙ ap (under r) last

  -- it is the level of the link before
  pub under_is : (k : ℕ) → k < n → under r k ≡ level r (prev n k)
  unfolding level
  under_is zero h = total_is ∙ last_level
  under_is (suc k) h = refl

  -- after board k it is the level of its link
  pub under_suc : (k : ℕ) → under r (suc k) ≡ level r k
  unfolding level
  under_suc k = refl

  pub levels_are : levels_from (sum (each loads) n) (take n surpluses) ≡ up_to (level r) n
  levels_are = ap (λ (x : ℕ). levels_from x (take n surpluses)) (sym total_is) ∙ from n 0 (omega arith) ∙ (λ t. up_to (λ i. level r (zero-add i t)) n)

-- |surplus| of a board of the ring is that of the job's surplus
pub size_of : {kind n : ℕ} {loads : List ℕ} {surpluses : List ℤ} {costs : List ℕ} → Lent kind n loads surpluses costs → (i : ℕ) → i < n
    → surplus_size (ring_in kind n loads surpluses costs) i ≡ nat_abs (each_ℤ surpluses i)
size_of {kind} {n} {loads} {surpluses} {costs} lent i h =
    let r = ring_in kind n loads surpluses costs in
    size_is r i ∙ ap nat_abs (taken_off (pos (r.load i)) (each_ℤ surpluses i) (pos (r.after i)) (lent.after_is i h))

-- what `risen` asks and says where a surplus, which a walk reads in 16 bits, leads from x to y
module _ (x y : ℕ) (s : ℤ) (leads : pos y ≡ pos x +ℤ s) (given : mag s < 2 ^ 15) where
  read : pos x +ℤ to_z w16 (of_z w16 s) ≡ pos y
  read = ap (λ (z : ℤ). pos x +ℤ z) (to_z-of_z {w = w16} {z = s} (record { sfits = given })) ∙ sym leads

  pub may_lead : pos (nat_abs (pos x +ℤ to_z w16 (of_z w16 s))) ≡ pos x +ℤ to_z w16 (of_z w16 s)
  may_lead = ap (λ (z : ℤ). pos (nat_abs z)) read ∙ sym read

  pub led : nat_abs (pos x +ℤ to_z w16 (of_z w16 s)) ≡ y
  led = ap nat_abs read
