-- `columns::rise`: the first x places hold the rising columns.
use Rattle.std.proofs.Common.{◌≡◌, ◌+◌, take}
use Rattle.ring.specs.Lists.{up_to}
use Rattle.columns.proofs.rise.Given as goal

abbrev pub invariant-loop-x : goal.invariant-loop-x
invariant-loop-x l = take l.x l.part ≡ up_to (λ x. l.first + x) l.x
