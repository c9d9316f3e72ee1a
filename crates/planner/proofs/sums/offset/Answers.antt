-- `sums::offset`: the least level is at most the last, which is the total, and the levels spread no more than that. Assumes nothing.
use Rattle.std.proofs.Common.{◌-◌, arith}
use Rattle.ring.proofs.Level.{low_le, spread}
use Rattle.ring.proofs.Bounds.{items_most}
use Rattle.planner.specs.Held.{ring_held}
use Rattle.planner.proofs.Raising.{last_level}
use Rattle.planner.proofs.sums.offset.Goals as goal

pub overflow_add-result : goal.overflow_add-result
overflow_add-result c =
    let a = c.args.ring.now in
    let r = ring_held a in
    let ok = a.lent.accepted in
    record { fits = omega (arith, c.requires, low_le r ok (a.shape.n - 1) (omega (arith, ok.boards)), last_level a.lent, spread r ok, items_most r ok) }
