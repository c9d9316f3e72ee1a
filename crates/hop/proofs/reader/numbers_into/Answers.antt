-- `reader::numbers_into`: the places so far hold what the bytes have. Assumes nothing.
use Rattle.std.proofs.Common.{ap, ◌∙◌, ℕ, rules}
use Rattle.hop.proofs.Filling.{filled_to, none, more, all}
use Rattle.hop.proofs.reader.numbers_into.Goals as goal

pub loop-i-init : goal.loop-i-init
loop-i-init c = none

pub loop-i-preserved : goal.loop-i-preserved
loop-i-preserved c = rw c.from-k.ensures (more c.loop-i.invariant c.loop-i-test.true c.numbers_of-board.ensures (search rules))

pub returns : goal.returns
returns c = all c.loop-i.invariant c.loop-i-test.false ∙ ap (λ (k : ℕ). filled_to c.args.s.now k c.args.job.now) c.min-held.ensures
