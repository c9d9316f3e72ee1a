-- A number taken modulo m, of a difference too. Assumes nothing.
use mathlib.Core.Path.{◌≡◌, sym, ap, ◌∙◌}
use mathlib.Core.Logic.{inl, inr}
use Prim.Native.Nat.{ℕ, suc, ◌+◌, ◌*◌, ◌-◌, ◌/◌, ◌%◌, ◌≤◌}
use native.Mathlib.Nat.{mod-lt, mod-eq_of_lt, mod-add-div', add-mul-mod_self_right}
use native.Mathlib.Omega.{arith}
use lib.IntN.{ℤ, pos, neg_ℤ, ◌+ℤ◌, ◌-ℤ◌, +ℤ_assoc, +ℤ_comm, neg_ℤ-+ℤ, neg_ℤ-neg_ℤ}
use borrow.Author.Tests.{lt-ltb}
use Rattle.ring.specs.Columns.{mod_ℤ}
use Rattle.ring.proofs.Tests.{le_lt}
use Rattle.ring.proofs.Signed.{difference}

module _ (m : ℕ) (some : 1 ≤ m) where
  -- below 0
  below : (d z c : ℕ) → z + suc d ≡ c * m → m - 1 - d % m ≡ z % m
  below d z c e =
      let q : ℕ = d / m in
      let x : ℕ = m - 1 - d % m in
      let l = mod-lt d some in
      let s : z + suc q * m ≡ x + c * m = omega (arith, mod-add-div' d m) in
      sym (mod-eq_of_lt {n = m - 1 - d % m} {m = m} (omega arith))
      ∙ (sym (add-mul-mod_self_right x c m) ∙ (ap (λ (y : ℕ). y % m) (sym s) ∙ add-mul-mod_self_right z (suc q) m))

  -- x − y mod m is that of any natural number that is so much more than it as some rounds are
  pub mod_is : (x y z c : ℕ) → z + y ≡ x + c * m → mod_ℤ (pos x -ℤ pos y) m ≡ z % m
  mod_is x y z c e =
      elim (le_lt y x) [
        | inl l ↦
            let k : ℕ = x - y in
            let s : z ≡ k + c * m = omega arith in
            ap (λ (i : ℤ). mod_ℤ i m) (difference x y (x - y) 0 (omega arith))
            ∙ (ap (λ (i : ℕ). i % m) {x = x - y + 0} {y = x - y} (omega arith) ∙ (sym (add-mul-mod_self_right k c m) ∙ ap (λ (i : ℕ). i % m) (sym s)))
        | inr l ↦
            let d : ℕ = y - suc x in
            ap (λ (i : ℤ). mod_ℤ i m) (difference x y 0 (suc d) (omega arith))
            ∙ rw (lt-ltb 0 (suc d) (omega arith)) (ap (λ (i : ℕ). m - 1 - i % m) {x = suc d - 1} {y = d} (omega arith) ∙ below d z c (omega arith))
      ]

-- x − (y − w) is (x + w) − y
pub regrouped : (x y w : ℕ) → pos x -ℤ (pos y -ℤ pos w) ≡ pos (x + w) -ℤ pos y
regrouped x y w =
    ap (λ (z : ℤ). pos x +ℤ z)
    (neg_ℤ-+ℤ (pos y) (neg_ℤ (pos w)) ∙ (ap (λ (z : ℤ). neg_ℤ (pos y) +ℤ z) (neg_ℤ-neg_ℤ (pos w)) ∙ +ℤ_comm (neg_ℤ (pos y)) (pos w)))
    ∙ sym (+ℤ_assoc (pos x) (pos w) (neg_ℤ (pos y)))
