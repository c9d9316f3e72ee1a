-- `sums::span_of`: each level is looked at. Assumes nothing.
use Rattle.std.proofs.Common.{◌≡◌, ℕ, suc, sym, ◌∙◌, ap, length, min, max, add-one}
use Rattle.std.proofs.lemmas.List.{length_push}
use Rattle.ring.specs.Numbers.{least, greatest}
use Rattle.ring.specs.Plan.{level}
use Rattle.planner.specs.Held.{ring_held}
use Rattle.planner.specs.Levels.{before}
use Rattle.planner.proofs.SumLevels.{before_first, level_is, span_is}
use Rattle.planner.proofs.Walks.{road, value_turn, value_end}
use Rattle.planner.proofs.sums.span_of.Goals as goal

pub loop-level-init : goal.loop-level-init
unfolding least greatest
loop-level-init c = let a = c.args.ring.now in let e = sym (before_first a.total a.surpluses.now) in (e, e)

pub loop-level-preserved : goal.loop-level-preserved
unfolding least greatest
loop-level-preserved c =
    let a = c.args.ring.now in
    let r = ring_held a in
    let l = c.loop-level in
    let way = road (level r) r.n c.levels-level-items.result c.into_iter-level-iterator.result c.levels-level-items.ensures c.into_iter-level-iterator.ensures.into_iter_gives in
    let k = value_turn (level r) r.n way l.yielded l.level-iterator l.yielded_by c.next.result c.next.new.self c.next.ensures.steps c.in-Some.level c.in-Some.is in
    let i = length l.yielded in
    let e : c.in-Some.level ≡ before a.total a.surpluses.now (suc i) = k.1 ∙ sym (level_is a.lent i k.0) ∙ sym (ap (λ (x : ℕ). before x a.surpluses.now (suc i)) a.added) in
    rw (length_push l.yielded c.in-Some.level, add-one, least, greatest)
    (c.min-low.ensures ∙ (λ t. min (l.invariant.0 t) (e t)), c.max-high.ensures ∙ (λ t. max (l.invariant.1 t) (e t)))

pub returns : goal.returns
returns c =
    let a = c.args.ring.now in
    let r = ring_held a in
    let l = c.loop-level in
    let way = road (level r) r.n c.levels-level-items.result c.into_iter-level-iterator.result c.levels-level-items.ensures c.into_iter-level-iterator.ensures.into_iter_gives in
    let n = value_end (level r) r.n way l.yielded l.level-iterator l.yielded_by c.next.result c.next.new.self c.next.ensures.steps c.in-None.is in
    (λ t. record { low = l.invariant.0 t; high = l.invariant.1 t })
    ∙ (λ t. let b = before (a.added t) a.surpluses.now in record { low = least b (n t); high = greatest b (n t) })
    ∙ span_is a.lent
