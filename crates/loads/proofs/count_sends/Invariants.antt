-- `loads::count_sends`: the counts of the records that have been read.
use Rattle.std.proofs.Common.{◌≡◌, length}
use Rattle.planner.specs.PlanBytes.{records_in}
use Rattle.loads.specs.Counts.{links_in, Counted}
use Rattle.loads.proofs.count_sends.Given as goal

abbrev pub invariant-loop-record : goal.invariant-loop-record
invariant-loop-record l = record { long : length l.counts ≡ 128; counted : Counted (links_in l.n l.costs) (records_in l.plan l.record-index) l.tick l.counts }
