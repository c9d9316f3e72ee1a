-- `turning::turn_of`: a refused job has no columns, a ring's turn is that of `turn_ring`. Assumes nothing.
use Rattle.std.proofs.Common.{ap, ◌∙◌}
use Rattle.planner.specs.Turn.{turn_in}
use Rattle.planner.proofs.Reading.{turn_known, lent}
use Rattle.planner.proofs.turning.turn_of.Goals as goal

pub returns-in_default : goal.returns-in_default
returns-in_default c = turn_known c.args.s.now c.read-job.result c.read-job.ensures _ c.in_default.is

pub new-requires : goal.new-requires
new-requires c = lent c.args.s.now c.read-job.result c.read-job.ensures c.in-Ok.shape c.in-Ok.is

pub returns : goal.returns
returns c = c.turn_ring.ensures ∙ ap turn_in c.new.ensures ∙ turn_known c.args.s.now c.read-job.result c.read-job.ensures _ c.in-Ok.is
