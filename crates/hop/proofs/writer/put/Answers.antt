-- `writer::put`: one board more, and all of them. Assumes nothing.
use Rattle.std.proofs.Common.{◌≡◌, refl, ap, ◌∙◌, ◌++◌, ◌-◌, length, drop, arith}
use borrow.Rule.Slice.PartMut.{mid_of}
use Rattle.ring.specs.Lists.{each, each_ℤ, joined}
use Rattle.hop.specs.declared.Numbers.{Numbers}
use Rattle.hop.specs.Kinds.{number_of}
use Rattle.hop.specs.Write.{head_bytes, record_bytes, board_bytes, job_bytes}
use Rattle.hop.proofs.Writing.{front, next, whole}
use Rattle.hop.proofs.writer.put.Goals as goal

pub loop-i-init : goal.loop-i-init
unfolding joined
loop-i-init c =
    let a = c.args in
    front a.buf.now c.put_head.new.buf (number_of a.ring.kind) a.ring.n (board_bytes (each a.lists.now.loads.now) (each_ℤ a.lists.now.surpluses.now) (each a.lists.now.costs.now)) c.put_head.ensures

pub loop-i-preserved : goal.loop-i-preserved
loop-i-preserved c =
    let a = c.args in
    let l = c.loop-i in
    let at = c.job_length.result in
    let g = board_bytes (each a.lists.now.loads.now) (each_ℤ a.lists.now.surpluses.now) (each a.lists.now.costs.now) in
    next c.put_head.new.buf (head_bytes (number_of a.ring.kind) a.ring.n) g l.i at l.buf c.put_board.new.part l.invariant c.job_length.ensures (omega arith)
    (c.put_board.ensures ∙ ap (λ (x : Numbers). record_bytes x.load x.surplus x.cost ++ drop 6 (mid_of at (length l.buf - at) l.buf)) c.numbers.ensures) refl

pub returns : goal.returns
unfolding job_bytes
returns c =
    let a = c.args in
    let l = c.loop-i in
    let e : l.i ≡ a.ring.n = omega arith in
    whole a.buf.now c.put_head.new.buf (number_of a.ring.kind) a.ring.n (board_bytes (each a.lists.now.loads.now) (each_ℤ a.lists.now.surpluses.now) (each a.lists.now.costs.now)) c.put_head.ensures l.buf (rw e at l.invariant)
