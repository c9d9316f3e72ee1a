-- `links::put_one_ways`: the records of the links so far, from one that carries nothing round the ring.
use Rattle.std.proofs.Common.{◌-◌, ◌≤◌}
use Rattle.ring.specs.Plan.{offset}
use Rattle.planner.specs.Held.{ring_held}
use Rattle.planner.proofs.Round.{Gone}
use Rattle.planner.proofs.links.put_one_ways.Given as goal

abbrev pub invariant-loop-k : goal.invariant-loop-k
invariant-loop-k l = record {
  from : 1 ≤ l.k;
  gone : Gone (ring_held l.ring) (offset (ring_held l.ring)) l.initial.buf l.initial.here.link (l.k - 1) l.here l.count l.buf;
}
