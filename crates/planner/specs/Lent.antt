-- Inner: cited by the contracts of the planner's inner functions only. What the planner promises is in Answer, Traffic, Turn and PlanBytes.
use Rattle.std.specs.Prelude.{◌≡◌, List, ℕ, ◌≤◌, ◌<◌, ℤ, pos, ◌-ℤ◌, length}
use Rattle.ring.specs.Lists.{each, each_ℤ}
use Rattle.ring.specs.Boards.{Accepted, ring_in}

-- the lists that an accepted job lends: they are long enough, and no load − surplus is negative
pub record Lent (kind n : ℕ) (loads : List ℕ) (surpluses : List ℤ) (costs : List ℕ) : Type 0 where
  pub accepted : Accepted (ring_in kind n loads surpluses costs)
  pub loads_long : n ≤ length loads
  pub surpluses_long : n ≤ length surpluses
  pub costs_long : n ≤ length costs
  pub after_is : (i : ℕ) → i < n → pos ((ring_in kind n loads surpluses costs).after i) ≡ pos (each loads i) -ℤ each_ℤ surpluses i
