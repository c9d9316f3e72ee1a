-- `Text::line`: the first fields are written.
use Rattle.std.proofs.Common.{take}
use Rattle.report.specs.Writing.{Writes, fields_text}
use Rattle.report.proofs.text.Text.line.Given as goal

abbrev pub invariant-loop-word : goal.invariant-loop-word
invariant-loop-word l = Writes (fields_text (take l.word-index l.fields)) l.initial.self l.self
