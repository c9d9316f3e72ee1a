-- `crossings::traffic_ring`: the last level, and the numbers of the boards passed.
use Rattle.std.proofs.Common.{◌≡◌, length, replicate}
use Rattle.ring.specs.Lists.{fill}
use Rattle.planner.specs.Held.{ring_held}
use Rattle.planner.proofs.Raising.{under}
use Rattle.planner.proofs.Crossing.{sent, received}
use Rattle.planner.proofs.crossings.traffic_ring.Given as goal

abbrev pub invariant-loop-board : goal.invariant-loop-board
invariant-loop-board l = record {
  last : l.last ≡ under (ring_held l.ring) (length l.yielded);
  sends : l.sends ≡ fill (sent (ring_held l.ring)) (length l.yielded) (replicate 128 0);
  receives : l.receives ≡ fill (received (ring_held l.ring)) (length l.yielded) (replicate 128 0);
}
