-- Only the numbers of the boards below n are looked at. Assumes nothing.
use mathlib.Core.Path.{◌≡◌, refl}
use Prim.Native.Nat.{ℕ, zero, suc, ◌≤◌}
use native.Mathlib.Omega.{arith}
use lib.Dec.{eqb}
use lib.IntN.{ℤ, nat_abs, ◌+ℤ◌}
use Rattle.ring.specs.Numbers.{pick, sum_ℤ}
use Rattle.ring.specs.Limits.{board_of}
use Rattle.ring.proofs.Fill.{Below, less}
use Rattle.std.specs.Prelude.{Ok, Err, Some, None}
use Rattle.hop.specs.declared.Shape.{Shape}
use Rattle.hop.specs.declared.refusals.Refusal.TheVariants.{UnlikeCost, Unbalanced}
use Rattle.hop.specs.Kinds.{number_of}
use Rattle.hop.specs.Refusals.{unlike, unmade, board_fault, cost_fault, balanced_of, ring_check}
use Rattle.hop.proofs.First.{faultless_same}

sum_ℤ_same : (f g : ℕ → ℤ) (n : ℕ) → Below f g n → sum_ℤ f n ≡ sum_ℤ g n
unfolding sum_ℤ
sum_ℤ_same f g zero b = refl
sum_ℤ_same f g (suc k) b = λ t. sum_ℤ_same f g k (less f g k b) t +ℤ b.at k (omega arith) t

module _ (ring : Shape) (some : 1 ≤ ring.n) (l l' : ℕ → ℕ) (z z' : ℕ → ℤ) (c c' : ℕ → ℕ)
    (sl : Below l l' ring.n) (sz : Below z z' ring.n) (sc : Below c c' ring.n) where
  pub check_same : ring_check ring l z c ≡ ring_check ring l' z' c'
  unfolding ring_check
  check_same =
      let b : balanced_of ring z ≡ balanced_of ring z' = λ t. unlike (nat_abs (sum_ℤ_same z z' ring.n sz t)) 0 (Err Unbalanced) (Ok ring) in
      let a = faultless_same (cost_fault c) (cost_fault c') ring.n _ _ (λ i h t. unlike (sc.at i h t) (sc.at 0 some t) (Some (UnlikeCost i)) None) b in
      faultless_same (board_fault l z c) (board_fault l' z' c') ring.n _ _ (λ i h t. unmade i (board_of (sl.at i h t) (sz.at i h t) (sc.at i h t)))
      (λ t. pick (eqb (number_of ring.kind) 2) (b t) (a t))
