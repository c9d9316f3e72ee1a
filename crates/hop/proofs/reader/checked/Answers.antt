-- `reader::checked`: the first seven bytes, then the boards. Assumes nothing.
use Rattle.std.proofs.Common.{◌∙◌, sym, arith}
use Rattle.std.proofs.lemmas.Result.{err_from_is_err_and}
use Rattle.hop.specs.Read.{head_of, check_of}
use Rattle.hop.proofs.First.{stands, goes}
use Rattle.hop.proofs.Reading.{headed}
use Rattle.hop.proofs.reader.checked.Goals as goal

pub returns-in_err-head : goal.returns-in_err-head
unfolding check_of
returns-in_err-head c =
    let p = err_from_is_err_and c.from_residual.result c.from_residual.ensures.1 in
    rw (p.1, p.2) (stands c.head.result (head_of c.args.s.now) _ c.in_err-head.field-0.0 c.head.ensures c.in_err-head.was)

pub check-requires : goal.check-requires
check-requires c = let h = headed c.args.s.now c.in_ok-head.field-0 (sym c.head.ensures ∙ c.in_ok-head.was) in record { n_bound = omega arith; boards_there = λ i l. omega (arith, h.whole) }

pub returns : goal.returns
unfolding check_of
returns c = c.check.ensures ∙ goes (head_of c.args.s.now) _ c.in_ok-head.field-0 (sym c.head.ensures ∙ c.in_ok-head.was)
