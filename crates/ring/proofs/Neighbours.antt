-- The board after a board and the board before it undo one another. Assumes nothing.
use mathlib.Core.Path.{◌≡◌, refl, sym, ap, ◌∙◌}
use mathlib.Core.Bool.{Bool, true, false}
use Prim.Native.Nat.{ℕ, zero, suc, ◌-◌, ◌<◌}
use native.Mathlib.Omega.{arith}
use lib.Dec.{eqb}
use borrow.Author.Tests.{eqb-true, eqb-false, eq-eqb, ne_eqb}
use Rattle.ring.specs.Numbers.{pick}
use Rattle.ring.specs.Boards.{next, prev}
use Rattle.ring.proofs.Tests.{eqb_iff}

module _ (n : ℕ) where
  pub prev_below : (i : ℕ) → i < n → prev n i < n
  prev_below zero h = omega arith
  prev_below (suc i) h = omega arith

  pub next_below : (i : ℕ) → i < n → next n i < n
  next_below i h = go (eqb (suc i) n) refl
    where
      go : (b : Bool) → eqb (suc i) n ≡ b → pick b 0 (suc i) < n
      go true e = omega arith
      go false e = let ne : suc i ≡ n → ⊥ = eqb-false (suc i) n e in omega arith

  pub prev_next : (i : ℕ) → i < n → prev n (next n i) ≡ i
  prev_next i h = go (eqb (suc i) n) refl
    where
      go : (b : Bool) → eqb (suc i) n ≡ b → prev n (pick b 0 (suc i)) ≡ i
      go true e = omega (arith, eqb-true (suc i) n e)
      go false e = refl

  pub next_prev : (i : ℕ) → i < n → next n (prev n i) ≡ i
  next_prev zero h = rw (eq-eqb (suc (n - 1)) n (omega arith))
  next_prev (suc i) h = rw (ne_eqb (suc i) n (λ q. omega arith))

  pub next_one : (i l : ℕ) → i < n → l < n → next n i ≡ next n l → i ≡ l
  next_one i l h k q = sym (prev_next i h) ∙ (ap (prev n) q ∙ prev_next l k)

  -- link l leads to board i exactly if it is the link before board i
  pub leads : (l i : ℕ) → l < n → i < n → eqb (next n l) i ≡ eqb l (prev n i)
  leads l i hl hi = eqb_iff (next n l) i l (prev n i) (λ e. sym (prev_next l hl) ∙ ap (prev n) e) (λ e. ap (next n) e ∙ next_prev i hi)
