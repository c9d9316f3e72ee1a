-- `sums::span_of`: the least and the greatest of the levels passed, and of the total.
use Rattle.std.proofs.Common.{◌≡◌, length}
use Rattle.ring.specs.Numbers.{least, greatest}
use Rattle.planner.specs.Levels.{before}
use Rattle.planner.proofs.sums.span_of.Given as goal

abbrev pub invariant-loop-level : goal.invariant-loop-level
invariant-loop-level l =
    (l.low ≡ least (before l.ring.total l.ring.surpluses.now) (length l.yielded))
    × (l.high ≡ greatest (before l.ring.total l.ring.surpluses.now) (length l.yielded))
