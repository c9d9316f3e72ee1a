-- `Text::number`: all digits but the last are written, and then the last. Assumes nothing.
use Rattle.std.proofs.Common.{arith}
use Rattle.report.proofs.Writing.{then}
use Rattle.report.proofs.Decimal.{decimal_one, decimal_more, length_one, length_more}
use Rattle.report.proofs.text.Text.+number.Goals as goal
use Rattle.report.proofs.text.Text.+number.Goals.{then-n-ge10, else-n-ge10}

pub number-requires : goal.number-requires
number-requires t c = (omega arith, omega (arith, length_more c.args.n c.if-n-ge10.true (omega arith)))

pub write-requires : goal.write-requires
write-requires t c = elim c.if-n-ge10.branch [
  | then-n-ge10 w ↦ rw w.self-is (omega (arith, length_more c.args.n w.if-n-ge10.true (omega arith)))
  | else-n-ge10 w ↦ rw w.self-is (omega (arith, length_one))
]

pub returns : goal.returns
returns t c = elim c.if-n-ge10.branch [
  | then-n-ge10 w ↦ rw (decimal_more c.args.n (omega arith) (omega arith)) (then w.number.ensures (rw (← w.self-is) c.write.ensures))
  | else-n-ge10 w ↦ rw (decimal_one c.args.n (omega arith), ← w.self-is) c.write.ensures
]
