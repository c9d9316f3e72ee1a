-- `sums::tally_of`: what the links passed carry, and how long they take for it.
use Rattle.std.proofs.Common.{◌≡◌, length}
use Rattle.ring.specs.Numbers.{sum}
use Rattle.ring.specs.Plan.{carries, link_time}
use Rattle.planner.specs.Held.{ring_held}
use Rattle.planner.proofs.SumWalk.{highest, summit}
use Rattle.planner.proofs.sums.tally_of.Given as goal

abbrev pub invariant-loop-link : goal.invariant-loop-link
invariant-loop-link l = record {
  moves : l.tally.moves.0 ≡ sum (carries (ring_held l.ring) l.offset) (length l.yielded);
  tight : l.tally.tight ≡ summit (link_time (ring_held l.ring) l.offset) (length l.yielded);
  slowest : l.tally.slowest.0 ≡ highest (link_time (ring_held l.ring) l.offset) (length l.yielded);
}
