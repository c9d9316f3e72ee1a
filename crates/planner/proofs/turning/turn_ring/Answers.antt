-- `turning::turn_ring`: the total of the loads, and the outline's offset modulo it, where board 0 begins. Assumes nothing.
use Rattle.std.proofs.Common.{sym, ◌∙◌, ◌%◌, arith}
use Rattle.ring.proofs.ColumnsCounts.{some}
use Rattle.ring.proofs.Order1.{begins_at_offset}
use Rattle.planner.specs.Held.{ring_held}
use Rattle.planner.proofs.turning.turn_ring.Goals as goal

pub nonzero_rem-result : goal.nonzero_rem-result
nonzero_rem-result c = let a = c.args.ring.now in omega (arith, some (ring_held a) a.lent.accepted, a.added)

pub returns : goal.returns
returns c =
    let a = c.args.ring.now in
    let r = ring_held a in
    (λ t. record { columns = a.added t; first = (c.outline_of.ensures t).offset % a.added t })
    ∙ (λ t. record { columns = a.added 1; first = sym (begins_at_offset r a.lent.accepted) t })
