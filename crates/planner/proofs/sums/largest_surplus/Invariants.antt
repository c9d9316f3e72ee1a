-- `sums::largest_surplus`: the largest of those passed.
use Rattle.std.proofs.Common.{◌≡◌}
use Rattle.ring.specs.Plan.{surplus_size}
use Rattle.planner.specs.Held.{ring_held}
use Rattle.planner.proofs.SumWalk.{highest}
use Rattle.planner.proofs.sums.largest_surplus.Given as goal

abbrev pub invariant-loop-surplus : goal.invariant-loop-surplus
invariant-loop-surplus l = l.most ≡ highest (surplus_size (ring_held l.ring)) l.surplus-index
