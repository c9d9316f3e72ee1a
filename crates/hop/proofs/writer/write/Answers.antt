-- `writer::write`: nothing is written before the last refusal. Assumes nothing.
use Rattle.std.proofs.Common.{◌≡◌, sym, ◌∙◌, Ok, arith}
use Rattle.std.proofs.lemmas.Result.{err_from_is_err_and}
use Rattle.hop.specs.Write.{lists_of}
use Rattle.hop.proofs.Listing.{listed, refused, short, wrote}
use Rattle.hop.proofs.writer.write.Goals as goal
use Rattle.hop.proofs.writer.write.Goals.{In_ok-ring}

-- the kind and n that the lists say
ring : (c : In_ok-ring) → lists_of c.args.kind c.args.loads.now c.args.surpluses.now c.args.costs.now ≡ Ok c.in_ok-ring.ring
ring c = sym c.check_lists.ensures ∙ c.in_ok-ring.was

pub returns-in_err-ring : goal.returns-in_err-ring
returns-in_err-ring c =
    let a = c.args in
    let p = err_from_is_err_and c.from_residual.result c.from_residual.ensures.1 in
    let e = refused a.kind a.loads.now a.surpluses.now a.costs.now a.buf.now c.in_err-ring.field-0.0 (sym c.check_lists.ensures ∙ c.in_err-ring.was) in
    rw (p.1, p.2) (record { value = e.answer; buf_after = e.buffer })

pub returns-then-buf-length : goal.returns-then-buf-length
returns-then-buf-length c =
    let a = c.args in
    let e = short a.kind a.loads.now a.surpluses.now a.costs.now a.buf.now c.in_ok-ring.ring c.job_length-length.result (ring (goal.at.returns-then-buf-length c).In_ok-ring)
    c.job_length-length.ensures c.if-buf-length.true in
    record { value = e.answer; buf_after = e.buffer }

pub put-requires-clause-long : goal.put-requires-clause-long
put-requires-clause-long c =
    let a = c.args in
    let l = listed a.kind a.loads.now a.surpluses.now a.costs.now c.in_ok-ring.ring (ring (goal.at.put-requires-clause-long c).In_ok-ring) in
    omega arith

pub returns : goal.returns
returns c =
    let a = c.args in
    let e = wrote a.kind a.loads.now a.surpluses.now a.costs.now a.buf.now c.in_ok-ring.ring c.job_length-length.result (ring (goal.at.returns c).In_ok-ring)
    c.job_length-length.ensures c.if-buf-length.false c.put.new.buf c.put.ensures in
    record { value = e.answer; buf_after = e.buffer }
