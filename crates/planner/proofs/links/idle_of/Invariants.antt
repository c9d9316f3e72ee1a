-- `links::idle_of`: no link so far carries nothing, and their records end where the next begin.
use Rattle.std.proofs.Common.{◌≡◌, ℕ, ◌<◌, length}
use Rattle.ring.specs.Numbers.{sum}
use Rattle.ring.specs.Plan.{level, carries}
use Rattle.planner.specs.Held.{ring_held}
use Rattle.planner.specs.PlanBytes.{record_place}
use Rattle.planner.proofs.links.idle_of.Given as goal

abbrev pub invariant-loop-link : goal.invariant-loop-link
invariant-loop-link l = record {
  place : l.at ≡ record_place (sum (carries (ring_held l.ring) l.offset) (length l.yielded));
  none : (j : ℕ) → j < length l.yielded → level (ring_held l.ring) j ≡ l.offset → ⊥;
}
