-- `Text::line`: a field more is written, and the line's end at last. Assumes nothing.
use Rattle.std.proofs.Common.{◌≤◌, ap, length, take_all, length-append, ℕ, arith}
use Rattle.report.proofs.Writing.{then, nothing, field_more, field_room}
use Rattle.report.proofs.text.Text.line.Goals as goal

pub write-requires : goal.write-requires
write-requires c = omega (arith, field_room c.args.fields.now c.loop-word.word-index c.loop-word-test.true, length-append {A = ℕ}, ap length c.as_bytes.ensures.value)

pub number-requires : goal.number-requires
number-requires c = omega (arith, field_room c.args.fields.now c.loop-word.word-index c.loop-word-test.true, length-append {A = ℕ}, ap length c.as_bytes.ensures.value)

pub returns : goal.returns
returns c = let all : length c.args.fields.now ≤ c.loop-word.word-index = c.loop-word-test.false in then (rw take_all at c.loop-word.invariant) c.write-2.ensures

pub loop-word-init : goal.loop-word-init
loop-word-init c = nothing _

pub loop-word-preserved : goal.loop-word-preserved
loop-word-preserved c =
    let word = rw c.as_bytes.ensures.value at c.write.ensures in
    rw (field_more c.args.fields.now c.loop-word.word-index c.loop-word-test.true) (then c.loop-word.invariant (then word c.number.ensures))
