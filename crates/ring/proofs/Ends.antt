-- The ends of a one-way link's sends, asked however far back round the ring: their closed form. Assumes nothing.
use mathlib.Core.Path.{◌≡◌, refl}
use Prim.Native.Nat.{ℕ, zero, suc, ◌+◌, ◌*◌, ◌-◌, ◌<◌, max}
use Rattle.ring.specs.Boards.{Ring, Accepted, prev}
use Rattle.ring.specs.Plan.{ends_after, end_back}
use Rattle.ring.proofs.Neighbours.{prev_below}
use Rattle.ring.proofs.Steady.{Steady, steady_none, closed, steady_ends}

module _ (r : Ring) (ok : Accepted r) where
  pub steady_back : (d i : ℕ) → i < r.n → Steady (end_back r d i)
  unfolding end_back
  steady_back zero i h = steady_none
  steady_back (suc d) i h =
      steady_ends (end_back r d (prev r.n i)) (steady_back d (prev r.n i) (prev_below r.n i h)) (r.cost i) (r.load i) (ok.loads i h).0

  pub back_closed : (d i j : ℕ) → i < r.n → end_back r (suc d) i (suc j) ≡ max (r.cost i * suc j) (r.cost i + end_back r d (prev r.n i) (suc j - r.load i))
  unfolding end_back
  back_closed d i j h =
      closed (end_back r d (prev r.n i)) (steady_back d (prev r.n i) (prev_below r.n i h)) (r.cost i) (r.load i) (ok.loads i h).0 j

  pub back_zero : (d i : ℕ) → end_back r d i 0 ≡ 0
  unfolding end_back ends_after
  back_zero zero i = refl
  back_zero (suc d) i = refl
