-- `records::put_run`: the records so far are at the front, and the next start is at hand.
use Rattle.std.proofs.Common.{◌≡◌, ◌+◌, ◌*◌}
use Rattle.planner.specs.Links.{direction_number, link_bytes}
use Rattle.hop.proofs.Grow.{Begins}
use Rattle.planner.proofs.records.put_run.Given as goal

abbrev pub invariant-loop-x : goal.invariant-loop-x
invariant-loop-x l = record {
  next : l.start ≡ l.first + l.x * l.step;
  sends : Begins l.initial.part (link_bytes l.link (direction_number l.direction) (λ k. l.first + k * l.step) l.x) (6 * l.x) l.part;
}
