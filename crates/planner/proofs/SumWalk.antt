-- The greatest and the lowest place of the greatest, from the numbers below a bound one after the other. Assumes nothing.
use Rattle.std.proofs.Common.{◌≡◌, refl, ap, ◌∙◌, sym, ℕ, zero, suc, ◌-◌, ◌≤◌, max, arith, ltb}
use borrow.Author.Tests.{lt-ltb}
use Rattle.ring.specs.Numbers.{pick, greatest, peak}
use Rattle.ring.proofs.Sums.{peak_is}

module _ (g : ℕ → ℕ) where
  -- of the numbers below k, and 0 where there are none
  unfoldable pub highest : ℕ → ℕ
  highest zero = 0
  highest (suc k) = max (highest k) (g k)

  unfoldable pub summit : ℕ → ℕ
  summit zero = 0
  summit (suc k) = pick (ltb (highest k) (g k)) k (summit k)

  highest_suc : (k : ℕ) → highest (suc k) ≡ greatest g k
  unfolding highest greatest
  highest_suc zero = omega arith
  highest_suc (suc k) = omega (arith, highest_suc k)

  first : (b : ℕ) → ◌≡◌ {A = ℕ} (pick (ltb 0 b) 0 0) 0
  first zero = refl
  first (suc b) = rw (lt-ltb 0 (suc b) (omega arith))

  summit_suc : (k : ℕ) → summit (suc k) ≡ peak g k
  unfolding summit highest peak
  summit_suc zero = first (g 0)
  summit_suc (suc k) =
      let e = highest_suc k ∙ sym (peak_is g k).most in
      λ t. pick (ltb (e t) (g (suc k))) (suc k) (summit_suc k t)

  module _ (n : ℕ) (some : 1 ≤ n) where
    whole : suc (n - 1) ≡ n
    whole = omega arith

    pub highest_is : highest n ≡ greatest g (n - 1)
    highest_is = ap highest (sym whole) ∙ highest_suc (n - 1)

    pub summit_is : summit n ≡ peak g (n - 1)
    summit_is = ap summit (sym whole) ∙ summit_suc (n - 1)
