-- `reader::read_cleared`: an accepted ring's numbers stand among zeros, and a refusal has zeros beside it. Assumes nothing.
use Rattle.std.proofs.Common.{ap, ◌∙◌}
use Rattle.hop.specs.Read.{with_numbers_in}
use Rattle.hop.proofs.Filling.{cleared, read_is, refused}
use Rattle.hop.proofs.reader.read_cleared.Goals as goal

pub returns-in-Ok : goal.returns-in-Ok
returns-in-Ok c =
    let s = c.args.s.now in
    c.numbers_into.ensures ∙ ap (with_numbers_in s c.in-Ok.ring.n) (cleared c.checked-job.result c.requires) ∙ read_is s c.checked-job.ensures c.in-Ok.is

pub returns-in_default : goal.returns-in_default
returns-in_default c = cleared c.checked-job.result c.requires ∙ refused c.args.s.now c.checked-job.ensures c.in_default.is
