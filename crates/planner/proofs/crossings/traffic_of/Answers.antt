-- `crossings::traffic_of`: a refused job has no traffic, a ring's is that of `traffic_ring`. Assumes nothing.
use Rattle.std.proofs.Common.{ap, ◌∙◌}
use Rattle.planner.specs.Traffic.{traffic_in}
use Rattle.planner.proofs.Reading.{traffic_known, lent}
use Rattle.planner.proofs.crossings.traffic_of.Goals as goal

pub returns-in_default : goal.returns-in_default
returns-in_default c = traffic_known c.args.s.now c.read-job.result c.read-job.ensures _ c.in_default.is

pub new-requires : goal.new-requires
new-requires c = lent c.args.s.now c.read-job.result c.read-job.ensures c.in-Ok.shape c.in-Ok.is

pub returns : goal.returns
returns c = c.traffic_ring.ensures ∙ ap traffic_in c.new.ensures ∙ traffic_known c.args.s.now c.read-job.result c.read-job.ensures _ c.in-Ok.is
