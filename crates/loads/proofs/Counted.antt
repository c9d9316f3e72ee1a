-- What each board has received and sent, of a list of sends: of none, and of one more. Assumes nothing.
use mathlib.Core.Path.{◌≡◌, refl, sym, ap, ◌∙◌}
use mathlib.Core.Bool.{Bool, true, false}
use mathlib.Core.List.{List, [], ◌∷◌, ◌++◌}
use Prim.Native.Nat.{ℕ, zero, suc, ◌+◌, ◌≤◌, ◌<◌}
use native.Mathlib.Nat.{add-zero}
use native.Mathlib.Omega.{arith}
use lib.Dec.{eqb, ltb, leb}
use lib.ListN.{length, get_or, set, length-append, length-set, replicate, get_or-replicate}
use lib.Seq.{get_or-set_same, get_or-set_other}
use Rattle.std.specs.Int.{from_bool}
use Rattle.std.proofs.lemmas.Bool.{cases_eq}
use borrow.Author.Tests.{eqb-true, eqb-false}
use Rattle.ring.specs.Numbers.{both, one_if}
use Rattle.ring.specs.Lists.{total, count, joined, up_to}
use Rattle.ring.specs.Boards.{Ring}
use Rattle.ring.specs.Schedule.{Send, sender, receiver, ends}
use Rattle.ring.proofs.Tests.{one_if_le}
use Rattle.ring.proofs.Totals.{each_all, total_le, total_length, count_more}
use Rattle.loads.specs.declared.Count.{Count}
use Rattle.loads.specs.Counts.{nothing, Counted}

-- no more pass a test than there are
pub count_most : {A : Type 0} (p : A → Bool) (σ : List A) → count p σ ≤ length σ
count_most p σ = omega (arith, total_length σ, total_le (λ s. one_if (p s)) (λ s. 1) σ (each_all (λ s. one_if_le (p s)) σ))

pub up_to_long : {A : Type 0} (s : ℕ → A) (k : ℕ) → length (up_to s k) ≡ k
unfolding joined
up_to_long s zero = refl
up_to_long s (suc k) = simp (length-append, up_to_long s k) (omega arith)

from_bool_is : (b : Bool) → from_bool b ≡ one_if b
from_bool_is true = refl
from_bool_is false = refl

-- so many more receipts, or so many more sends, of one board
abbrev pub got : List Count → ℕ → ℕ → Count
got counts to one = let c = get_or counts to nothing in record { received = c.received + one; sent = c.sent }

abbrev pub gave : List Count → ℕ → ℕ → Count
gave counts from one = let c = get_or counts from nothing in record { received = c.received; sent = c.sent + one }

module _ (f : Count → ℕ) (counts : List Count) (at i : ℕ) (h : at < length counts) (v : Count) where
  -- a new count for one board, which leaves a part of it as it is
  kept : f v ≡ f (get_or counts at nothing) → f (get_or (set counts at v) i nothing) ≡ f (get_or counts i nothing)
  kept e = grind (arith, get_or-set_same, get_or-set_other, cases_eq i at)

  -- or has one more there, where a test holds
  more : (b : Bool) → f v ≡ f (get_or counts at nothing) + one_if b → f (get_or (set counts at v) i nothing) ≡ f (get_or counts i nothing) + one_if (both (eqb at i) b)
  more b e = go (eqb at i) refl
    where
      go : (t : Bool) → eqb at i ≡ t → f (get_or (set counts at v) i nothing) ≡ f (get_or counts i nothing) + one_if (both t b)
      go true q = let same : at ≡ i = eqb-true at i q in rw (← same) (ap f (get_or-set_same counts at v nothing h) ∙ e)
      go false q = rw (add-zero) (ap f (get_or-set_other counts at i v nothing (λ z. eqb-false at i q (sym z))))

-- nothing was counted of no sends
pub none_counted : (r : Ring) (tick : ℕ) → r.n ≤ 128 → Counted r [] tick (replicate 128 nothing)
unfolding total
none_counted r tick few =
    let at : (i : ℕ) → i < r.n → get_or (replicate 128 nothing) i nothing ≡ nothing = λ i h. get_or-replicate 128 i nothing nothing (omega arith) in
    record { received = λ i h. ap (λ (c : Count). c.received) (at i h); sent = λ i h. ap (λ (c : Count). c.sent) (at i h) }

-- one send more
module _ {r : Ring} {σ : List Send} {tick : ℕ} {counts : List Count} (long : length counts ≡ 128) (few : r.n ≤ 128) (held : Counted r σ tick counts) where
  -- no board has more receipts, and none more sends, than there are sends
  pub got_room : {to one : ℕ} (b : Bool) → to < r.n → one ≡ from_bool b → (get_or counts to nothing).received + one ≤ length σ + 1
  got_room {to} b h e = omega (arith, held.received to h, count_most (λ x. both (eqb (receiver r x) to) (leb (ends r x) tick)) σ, e, from_bool_is b, one_if_le b)

  pub gave_room : (one : ℕ) {to from two : ℕ} (b : Bool) → to < r.n → from < r.n → two ≡ from_bool b → (get_or (set counts to (got counts to one)) from nothing).sent + two ≤ length σ + 1
  gave_room one {to} {from} b t h e =
      omega (arith, kept (λ (c : Count). c.sent) counts to from (omega arith) (got counts to one) refl, held.sent from h, count_most (λ x. both (eqb (sender r x) from) (ltb x.start tick)) σ, e, from_bool_is b, one_if_le b)

  pub one_counted : (s : Send) {to from one two : ℕ} → to ≡ receiver r s → from ≡ sender r s → to < r.n → from < r.n → one ≡ from_bool (leb (ends r s) tick) → two ≡ from_bool (ltb s.start tick)
      → let mid = set counts to (got counts to one) in Counted r (σ ++ s ∷ []) tick (set mid from (gave mid from two))
  one_counted s {to} {from} {one} {two} t f ht hf e g =
      let mid = set counts to (got counts to one) in
      let to_in : to < length counts = omega arith in
      let from_in : from < length mid = omega (arith, length-set counts to (got counts to one)) in
      record {
        received = λ i h.
            kept (λ (c : Count). c.received) mid from i from_in (gave mid from two) refl
            ∙ (more (λ (c : Count). c.received) counts to i to_in (got counts to one) _ (ap (λ (x : ℕ). (get_or counts to nothing).received + x) (e ∙ from_bool_is _))
            ∙ ((λ j. held.received i h j + one_if (both (eqb (t j) i) (leb (ends r s) tick))) ∙ sym (count_more (λ x. both (eqb (receiver r x) i) (leb (ends r x) tick)) σ s)));
        sent = λ i h.
            more (λ (c : Count). c.sent) mid from i from_in (gave mid from two) _ (ap (λ (x : ℕ). (get_or mid from nothing).sent + x) (g ∙ from_bool_is _))
            ∙ ((λ j. (kept (λ (c : Count). c.sent) counts to i to_in (got counts to one) refl ∙ held.sent i h) j + one_if (both (eqb (f j) i) (ltb s.start tick)))
            ∙ sym (count_more (λ x. both (eqb (sender r x) i) (ltb x.start tick)) σ s));
      }
