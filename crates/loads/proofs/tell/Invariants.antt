-- `loads::tell`: the list's first i places are filled.
use Rattle.std.proofs.Common.{◌≡◌, take}
use Rattle.ring.specs.Lists.{up_to}
use Rattle.loads.specs.Counts.{left_with}
use Rattle.loads.proofs.tell.Given as goal

abbrev pub invariant-loop-i : goal.invariant-loop-i
invariant-loop-i l = take l.i l.list ≡ up_to (left_with l.loads l.counts) l.i
