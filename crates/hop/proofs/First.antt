-- The first board with a fault: none, one, and what follows from none. Assumes nothing.
use Rattle.std.proofs.Common.{◌≡◌, refl, sym, ap, ◌∙◌, Bool, true, false, ℕ, zero, suc, ◌+◌, ◌<◌, Option, Some, None, Result, Ok, Err, arith, add-one}
use mathlib.Core.Logic.{inl, inr}
use Rattle.ring.specs.Numbers.{pick}
use Rattle.ring.proofs.Tests.{le_lt}
use Rattle.hop.specs.declared.Shape.{Shape}
use Rattle.hop.specs.declared.refusals.Refusal.{Refusal}
use Rattle.hop.specs.Refusals.{refuses, goes_on, faultless}

-- no refusal is a success
pub not_ok : {A : Type 0} {r : Refusal} {a : A} → Err r ≡ Ok a → ⊥
not_ok e = let z : ◌≡◌ {A = ℕ} 0 1 = cc in omega arith

-- a test that refuses did not hold where the answer is a success
pub no : {A : Type 0} (t : Bool) (r : Refusal) (x : Result A Refusal) {a : A} → pick t (Err r) x ≡ Ok a → (t ≡ false) × (x ≡ Ok a)
no true r x e = absurd (not_ok e)
no false r x e = (refl, e)

-- a test that has to hold, held
pub yes : {A : Type 0} (t : Bool) (r : Refusal) (x : Result A Refusal) {a : A} → pick t x (Err r) ≡ Ok a → (t ≡ true) × (x ≡ Ok a)
yes true r x e = (refl, e)
yes false r x e = absurd (not_ok e)

module _ {A : Type 0} where
  -- a refusal stands, and a success goes on
  pub stands : (c d : Result A Refusal) (next : A → Result Shape Refusal) (r : Refusal) → c ≡ d → c ≡ Err r → Err r ≡ goes_on d next
  stands c d next r e q = ap (λ (x : Result A Refusal). goes_on x next) (sym q ∙ e)

  pub goes : (d : Result A Refusal) (next : A → Result Shape Refusal) (a : A) → d ≡ Ok a → next a ≡ goes_on d next
  goes d next a q = ap (λ (x : Result A Refusal). goes_on x next) (sym q)

  -- what goes on to a success was one already
  pub went_on : (c : Result A Refusal) (next : A → Result Shape Refusal) (ring : Shape) → goes_on c next ≡ Ok ring → (a : A) × (c ≡ Ok a) × (next a ≡ Ok ring)
  went_on (Ok a) next ring e = (a, refl, e)
  went_on (Err r) next ring e = absurd (not_ok e)

-- none below k has a fault
pub record Sound (f : ℕ → Option Refusal) (k : ℕ) : Type 0 where
  pub at : (i : ℕ) → i < k → f i ≡ None

-- a fault that does not refuse is none
through : (o : Option Refusal) (next : Result Shape Refusal) (ring : Shape) → refuses o next ≡ Ok ring → (o ≡ None) × (next ≡ Ok ring)
through None next ring e = (refl, e)
through (Some r) next ring e = absurd (not_ok e)

module _ (f : ℕ → Option Refusal) where
  pub none : Sound f 0
  none = record { at = λ i h. absurd (omega arith) }

  pub more : (k : ℕ) → Sound f k → f k ≡ None → Sound f (k + 1)
  more k s z = record { at = λ i h. elim (le_lt k i) [ inl l ↦ let q : i ≡ k = omega arith in rw q z | inr l ↦ s.at i l ] }

  pub passed : (n : ℕ) (next : Result Shape Refusal) → Sound f n → faultless f n next ≡ next
  unfolding faultless
  passed zero next s = refl
  passed (suc k) next s = passed k _ (record { at = λ i h. s.at i (omega arith) }) ∙ ap (λ (o : Option Refusal). refuses o next) (s.at k (omega arith))

  pub stopped : (i n : ℕ) (next : Result Shape Refusal) (r : Refusal) → i < n → Sound f i → f i ≡ Some r → faultless f n next ≡ Err r
  unfolding faultless
  stopped i zero next r h s z = absurd (omega arith)
  stopped i (suc k) next r h s z =
      elim (le_lt k i) [
        | inl l ↦ let q : k ≡ i = omega arith in rw q (passed i _ s ∙ ap (λ (o : Option Refusal). refuses o next) z)
        | inr l ↦ stopped i k _ r l s z
      ]

  -- where the answer is a ring, none has a fault and what comes next says so
  pub clear : (n : ℕ) (next : Result Shape Refusal) (ring : Shape) → faultless f n next ≡ Ok ring → Sound f n × (next ≡ Ok ring)
  unfolding faultless
  clear zero next ring e = (none, e)
  clear (suc j) next ring e =
      let r = clear j (refuses (f j) next) ring e in
      let y = through (f j) next ring r.1 in
      (rw add-one at (more j r.0 y.0), y.1)

-- only the boards below n are asked
pub faultless_same : (f g : ℕ → Option Refusal) (n : ℕ) (x y : Result Shape Refusal) → ((i : ℕ) → i < n → f i ≡ g i) → x ≡ y → faultless f n x ≡ faultless g n y
unfolding faultless
faultless_same f g zero x y h e = e
faultless_same f g (suc k) x y h e = faultless_same f g k _ _ (λ i l. h i (omega arith)) (λ t. refuses (h k (omega arith) t) (e t))
