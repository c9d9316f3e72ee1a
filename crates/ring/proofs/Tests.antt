-- Two cases of an order, and tests that agree. Assumes nothing.
use mathlib.Core.Path.{◌≡◌, refl, sym, ◌∙◌}
use mathlib.Core.Bool.{Bool, true, false}
use mathlib.Core.Logic.{◌⊎◌, inl, inr}
use Prim.Native.Nat.{ℕ, suc, ◌+◌, ◌≤◌, ◌<◌}
use native.Mathlib.Decide.{dec_le}
use native.Mathlib.Omega.{arith}
use lib.Dec.{eqb, ltb, leb}
use borrow.Author.Tests.{eqb-true, eqb-false, eq-eqb, ne_eqb, le-leb, lt-leb, le-ltb, lt-ltb}
use Rattle.ring.specs.Numbers.{both, one_if}

-- a case split on an order
pub le_lt : (a b : ℕ) → (a ≤ b) ⊎ (b < a)
le_lt a b = elim (dec_le a b) [ yes h ↦ inl h | no h ↦ inr (omega arith) ]

-- two tests agree where each one's fact gives the other's
pub eqb_iff : (a b c d : ℕ) → (a ≡ b → c ≡ d) → (c ≡ d → a ≡ b) → eqb a b ≡ eqb c d
eqb_iff a b c d f g = go (eqb a b) refl
  where
    go : (t : Bool) → eqb a b ≡ t → t ≡ eqb c d
    go true e = sym (eq-eqb c d (f (eqb-true a b e)))
    go false e = sym (ne_eqb c d (λ h. eqb-false a b e (g h)))

pub leb_iff : (a b c d : ℕ) → (a ≤ b → c ≤ d) → (c ≤ d → a ≤ b) → leb a b ≡ leb c d
leb_iff a b c d f g = elim (le_lt c d) [ inl l ↦ le-leb a b (g l) ∙ sym (le-leb c d l) | inr l ↦ lt-leb a b (over l) ∙ sym (lt-leb c d l) ]
  where
    over : d < c → b < a
    over l = elim (le_lt a b) [ inl k ↦ let z = f k in absurd (omega arith) | inr k ↦ k ]

-- what both tests give, each
pub both_true : (a b : Bool) → both a b ≡ true → (a ≡ true) × (b ≡ true)
both_true true b e = (refl, e)
both_true false b e = let z : ◌≡◌ {A = ℕ} 0 1 = cc in absurd (omega arith)

pub both_with : (a b : Bool) → b ≡ true → both a b ≡ a
both_with true b e = e
both_with false b e = refl

pub both_without : (a b : Bool) → b ≡ false → both a b ≡ false
both_without true b e = e
both_without false b e = refl

pub one_if_le : (b : Bool) → one_if b ≤ 1
one_if_le true = omega arith
one_if_le false = omega arith

-- a test that is one of two, under one more test
pub one_of_two : (a b c q : Bool) → one_if a ≡ one_if b + one_if c → one_if (both a q) ≡ one_if (both b q) + one_if (both c q)
one_of_two a b c true e = rw (both_with a true refl, both_with b true refl, both_with c true refl) e
one_of_two a b c false e = rw (both_without a false refl, both_without b false refl, both_without c false refl)

-- one more tick: what is below it was below before, or is there
pub one_more : (t : ℕ) (b : Bool) (m : ℕ) → one_if (both b (ltb m (suc t))) ≡ one_if (both b (ltb m t)) + one_if (both b (eqb m t))
one_more t false m = refl
one_more t true m =
    elim (le_lt t m) [
      | inl l ↦
          elim (le_lt m t) [
            | inl k ↦ rw (lt-ltb m (suc t) (omega arith), le-ltb m t l, eq-eqb m t (omega arith))
            | inr k ↦ rw (le-ltb m (suc t) k, le-ltb m t l, ne_eqb m t (omega arith))
          ]
      | inr l ↦ rw (lt-ltb m (suc t) (omega arith), lt-ltb m t l, ne_eqb m t (omega arith))
    ]
