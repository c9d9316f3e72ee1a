-- `crossings::traffic_ring`: each board's numbers, one after the other. Assumes nothing.
use Rattle.std.proofs.Common.{◌≡◌, ◌<◌, refl, ◌∙◌, sym, ◌+◌, ◌-◌, set, length, add-one, arith}
use Rattle.std.proofs.lemmas.List.{length_push}
use Rattle.ring.specs.Lists.{fill}
use Rattle.ring.specs.Plan.{level, offset}
use Rattle.planner.specs.Held.{ring_held}
use Rattle.planner.proofs.Raising.{under_suc, total_is, few}
use Rattle.planner.proofs.Walks.{Turn, numbered, numbered_turn, numbered_end}
use Rattle.planner.proofs.Crossing.{all_sent, all_received}
use Rattle.planner.proofs.crossings.traffic_ring.Goals as goal
use Rattle.planner.proofs.crossings.traffic_ring.Goals.{In-Some}

pub loop-board-init : goal.loop-board-init
unfolding fill
loop-board-init c = let a = c.args.ring.now in record { last = a.added ∙ sym (total_is a.lent); sends = refl; receives = refl }

-- where the walk is
turn : (c : In-Some) → Turn (level (ring_held c.args.ring.now)) c.args.ring.now.shape.n (length c.loop-board.yielded) c.in-Some.board c.in-Some.level
turn c =
    let a = c.args.ring.now in
    let g = level (ring_held a) in
    numbered_turn g a.shape.n (numbered g a.shape.n c.levels.result c.into_iter-board-iterator.result c.levels.ensures (cc) (cc))
    c.loop-board.yielded c.loop-board.board-iterator c.loop-board.yielded_by c.next.result c.next.new.self c.next.ensures.steps _ c.in-Some.is

below : (c : In-Some) → c.in-Some.board < 128
below c = let k = turn c in omega (arith, c.args.ring.now.lent.accepted.boards)

pub offset_bounds-sends-board : goal.offset_bounds-sends-board
offset_bounds-sends-board c = record { fits = omega (arith, below (goal.at.offset_bounds-sends-board c).In-Some) }

pub bounds-sends-board : goal.bounds-sends-board
bounds-sends-board c = below (goal.at.bounds-sends-board c).In-Some

pub overflow_add-receives : goal.overflow_add-receives
overflow_add-receives c =
    let a = c.args.ring.now in
    let k = turn (goal.at.overflow_add-receives c).In-Some in
    record { fits = omega (arith, c.loop-board.invariant.last, few a.lent (length c.loop-board.yielded) (omega (arith, k.below)), c.saturating_sub-in-loop-board-2.ensures, c.saturating_sub-in-loop-board-3.ensures) }

pub offset_bounds-receives-board : goal.offset_bounds-receives-board
offset_bounds-receives-board c = record { fits = omega (arith, below (goal.at.offset_bounds-receives-board c).In-Some) }

pub bounds-receives-board : goal.bounds-receives-board
bounds-receives-board c = below (goal.at.bounds-receives-board c).In-Some

pub loop-board-preserved : goal.loop-board-preserved
unfolding fill
loop-board-preserved c =
    let a = c.args.ring.now in
    let r = ring_held a in
    let k = turn (goal.at.loop-board-preserved c).In-Some in
    let inv = c.loop-board.invariant in
    let i = length c.loop-board.yielded in
    let o : c.outline_of-offset.result.offset ≡ offset r = λ t. (c.outline_of-offset.ensures t).offset in
    let on = c.saturating_sub.ensures ∙ (λ t. k.value_is t - o t) in
    let back = c.saturating_sub-in-loop-board.ensures ∙ (λ t. o t - inv.last t) in
    let come = c.saturating_sub-in-loop-board-2.ensures ∙ (λ t. inv.last t - o t) in
    let returned = c.saturating_sub-in-loop-board-3.ensures ∙ (λ t. o t - k.value_is t) in
    rw (length_push c.loop-board.yielded (c.in-Some.board, c.in-Some.level), add-one, fill)
    (record {
      last = k.value_is ∙ sym (under_suc a.lent i);
      sends = λ t. set (inv.sends t) (k.number_is t) (on t + back t);
      receives = λ t. set (inv.receives t) (k.number_is t) (come t + returned t);
    })

pub returns : goal.returns
returns c =
    let a = c.args.ring.now in
    let g = level (ring_held a) in
    let n =
    numbered_end g a.shape.n (numbered g a.shape.n c.levels.result c.into_iter-board-iterator.result c.levels.ensures (cc) (cc))
    c.loop-board.yielded c.loop-board.board-iterator c.loop-board.yielded_by c.next.result c.next.new.self c.next.ensures.steps c.in-None.is
    in
    let inv = rw n at c.loop-board.invariant in
    let sends = inv.sends ∙ all_sent a.lent in
    let receives = inv.receives ∙ all_received a.lent in
    λ t. record { sends = sends t; receives = receives t }
