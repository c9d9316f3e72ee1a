-- `reader::numbers_into`: the first i places hold what the bytes have.
use Rattle.hop.proofs.Filling.{Filled}
use Rattle.hop.proofs.reader.numbers_into.Given as goal

abbrev pub invariant-loop-i : goal.invariant-loop-i
invariant-loop-i l = Filled l.s l.held l.i l.initial.job l.job
