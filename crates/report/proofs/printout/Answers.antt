-- `printout`: the text is that of the input's first bytes, planned into the document's room. Assumes nothing.
use Rattle.std.proofs.Common.{refl, arith}
use Rattle.report.proofs.Printed.{prints}
use Rattle.report.proofs.printout.Goals as goal

pub returns : goal.returns
returns c =
    let told = c.report.ensures in
    let same = prints c.args.input.now c.min-length.result _ (omega arith) refl in
    record { value = rw same at told.value; text_after = rw same at told.text_after }
