-- `links::put_one_way`: the records so far stand in the link's place, and the end of the last send is at hand.
use Rattle.std.proofs.Common.{◌≡◌, ◌+◌, ◌*◌, ◌≤◌, ◌++◌, take}
use Rattle.hop.proofs.Grow.{Begins}
use Rattle.planner.specs.Links.{link_bytes, arrives_in, start_fed}
use Rattle.planner.proofs.Feeding.{free_at}
use Rattle.planner.proofs.links.put_one_way.Given as goal

abbrev pub invariant-loop-x : goal.invariant-loop-x
invariant-loop-x l = record {
  free : l.free.0 ≡ free_at (arrives_in l.initial.buf l.feed) l.cost l.x;
  few : l.free.0 ≤ 4294967296 + 65536 * (l.x + 1);
  sends : Begins l.initial.buf (take l.from l.initial.buf ++ link_bytes l.link 0 (start_fed (arrives_in l.initial.buf l.feed) l.cost) l.x) (l.from + 6 * l.x) l.buf;
}
