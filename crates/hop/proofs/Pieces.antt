-- Lists made of pieces of six: their length and their elements. Assumes nothing.
use mathlib.Core.Path.{◌≡◌, refl, ◌∙◌}
use mathlib.Core.List.{List}
use mathlib.Core.Logic.{inl, inr}
use Prim.Native.Nat.{ℕ, zero, suc, ◌+◌, ◌*◌, ◌<◌}
use native.Mathlib.Omega.{arith}
use lib.ListN.{length, get_or, length-append, get_or-append}
use lib.Seq.{get_or-append-add}
use Rattle.ring.specs.Lists.{joined}
use Rattle.ring.proofs.Tests.{le_lt}

module _ (g : ℕ → List ℕ) (long : (i : ℕ) → length (g i) ≡ 6) where
  pub joined_long : (k : ℕ) → length (joined g k) ≡ 6 * k
  unfolding joined
  joined_long zero = refl
  joined_long (suc k) = simp (length-append, long, joined_long k) (omega arith)

  -- element j of piece i
  pub joined_at : (n i j : ℕ) → i < n → j < 6 → get_or (joined g n) (6 * i + j) 0 ≡ get_or (g i) j 0
  unfolding joined
  joined_at zero i j h w = absurd (omega arith)
  joined_at (suc k) i j h w =
      elim (le_lt k i) [
        | inl l ↦
            let q : i ≡ k = omega arith in
            rw (q, ← joined_long k) (get_or-append-add (joined g k) (g k) j 0)
        | inr l ↦ get_or-append (joined g k) (g k) 0 (6 * i + j) (omega (arith, joined_long k)) ∙ joined_at k i j l w
      ]
