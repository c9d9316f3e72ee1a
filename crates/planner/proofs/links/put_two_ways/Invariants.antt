-- `links::put_two_ways`: the records of the links so far stand after the head.
use Rattle.std.proofs.Common.{length}
use Rattle.ring.specs.Plan.{offset, carries}
use Rattle.planner.specs.Held.{ring_held}
use Rattle.planner.proofs.Grow.{Written}
use Rattle.planner.proofs.Round.{piece}
use Rattle.planner.proofs.links.put_two_ways.Given as goal

abbrev pub invariant-loop-link : goal.invariant-loop-link
invariant-loop-link l =
    Written 15 (piece (ring_held l.ring) (offset (ring_held l.ring))) (carries (ring_held l.ring) (offset (ring_held l.ring))) l.initial.buf (length l.yielded) l.at l.buf
