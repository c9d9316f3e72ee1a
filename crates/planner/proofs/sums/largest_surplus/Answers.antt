-- `sums::largest_surplus`: each |surplus| is looked at. Assumes nothing.
use Rattle.std.proofs.Common.{◌≡◌, ◌≤◌, ◌<◌, refl, sym, ap, ◌∙◌, max, take, add-one, arith, rules, pos, nat_abs, FitsSigned, w16, length-take}
use Rattle.std.proofs.lemmas.Int.{to_z-of_z}
use Rattle.std.proofs.lemmas.List.{get_or-take}
use Rattle.ring.specs.Lists.{each_ℤ}
use Rattle.ring.specs.Plan.{surplus_size}
use Rattle.planner.specs.Held.{ring_held}
use Rattle.planner.proofs.Raising.{size_of}
use Rattle.planner.proofs.SumWalk.{highest, highest_is}
use Rattle.planner.proofs.sums.largest_surplus.Goals as goal

pub loop-surplus-init : goal.loop-surplus-init
unfolding highest
loop-surplus-init c = refl

pub loop-surplus-preserved : goal.loop-surplus-preserved
unfolding highest
loop-surplus-preserved c =
    let a = c.args.ring.now in
    let l = c.loop-surplus in
    let n = c.from.ensures in
    let z = each_ℤ (take c.from.result a.surpluses.now) l.surplus-index in
    let fits : FitsSigned w16 z = search rules in
    let below : l.surplus-index < a.shape.n = omega (arith, c.loop-surplus-test.true, n, length-take c.from.result a.surpluses.now) in
    let same : z ≡ each_ℤ a.surpluses.now l.surplus-index = get_or-take c.from.result a.surpluses.now l.surplus-index (pos 0) (omega (arith, n)) in
    let size = c.from-in-loop-surplus.ensures ∙ c.unsigned_abs.ensures.value ∙ ap nat_abs (to_z-of_z w16 z fits ∙ same) ∙ sym (size_of a.lent l.surplus-index below) in
    rw (add-one, highest) (c.max-most.ensures ∙ (λ t. max (l.invariant t) (size t)))

pub returns : goal.returns
returns c =
    let a = c.args.ring.now in
    let l = c.loop-surplus in
    let e : l.surplus-index ≡ a.shape.n = omega (arith, c.from.ensures, length-take c.from.result a.surpluses.now, a.lent.surpluses_long, l.auto.surplus-index-end, c.loop-surplus-test.false) in
    let some : 1 ≤ a.shape.n = omega (arith, a.lent.accepted.boards) in
    l.invariant ∙ ap (highest (surplus_size (ring_held a))) e ∙ highest_is (surplus_size (ring_held a)) a.shape.n some
