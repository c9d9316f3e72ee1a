-- `links::put_two_ways`: the records of one link more. Assumes nothing.
use Rattle.std.proofs.Common.{◌≡◌, ℕ, ◌+◌, ◌*◌, ◌-◌, ◌≤◌, ◌++◌, List, length, take, drop, ap, sym, ◌∙◌, length-take, length-drop, arith}
use borrow.Rule.Slice.PartMut.{mid_of}
use Rattle.std.specs.Int.{abs_diff}
use Rattle.std.proofs.lemmas.List.{length_push}
use Rattle.ring.specs.Plan.{level, offset, rounds, ahead, behind, carries, moves}
use Rattle.planner.specs.Held.{ring_held}
use Rattle.planner.specs.PlanBytes.{plan_length}
use Rattle.planner.specs.Links.{link_bytes, direction_by, start_two}
use Rattle.planner.proofs.Bytes.{link_long, records_plan}
use Rattle.planner.proofs.Grow.{none_yet, one_more, all_written, sum_within}
use Rattle.planner.proofs.Round.{piece}
use Rattle.planner.proofs.TwoWays.{piece_is, rounds_two, in_time}
use Rattle.planner.proofs.Walks.{PairTurn, paired, paired_turn, paired_end}
use Rattle.planner.proofs.links.put_two_ways.Goals as goal
use Rattle.planner.proofs.links.put_two_ways.Goals.{In-Some}

pub loop-link-init : goal.loop-link-init
loop-link-init c =
    let r = ring_held c.args.ring.now in
    none_yet (piece r (offset r)) (carries r (offset r)) c.args.buf.now (omega (arith, c.requires.fits))

-- where the walk is
turn : (c : In-Some) → PairTurn (level (ring_held c.args.ring.now)) c.args.ring.now.shape.n c.args.ring.now.costs.now (length c.loop-link.yielded) c.in-Some.link c.in-Some.level c.in-Some.cost.now
turn c =
    let a = c.args.ring.now in
    let g = level (ring_held a) in
    paired_turn g a.shape.n a.costs.now a.lent.costs_long (paired g a.shape.n a.costs.now c.levels.result c.into_iter-link-iterator.result c.levels.ensures (cc) (cc) (cc))
    c.loop-link.yielded c.loop-link.link-iterator c.loop-link.yielded_by c.next.result c.next.new.self c.next.ensures.steps _ c.in-Some.is

-- the records of its link fit
room : (c : In-Some) → c.loop-link.at + 6 * carries (ring_held c.args.ring.now) (offset (ring_held c.args.ring.now)) (length c.loop-link.yielded) ≤ length c.args.buf.now
unfolding moves
room c =
    let r = ring_held c.args.ring.now in
    omega (arith, sum_within (carries r (offset r)) (length c.loop-link.yielded) r.n (turn c).turn.below, c.loop-link.invariant.up_to, c.requires.fits)

-- the offset and T are the ring's
taken : (c : In-Some) → c.args.o.offset ≡ offset (ring_held c.args.ring.now)
taken c = λ t. (c.requires.known t).offset

turns : (c : In-Some) → c.args.o.rounds.0 ≡ rounds (ring_held c.args.ring.now)
turns c = (λ t. (c.requires.known t).rounds.0) ∙ rounds_two (ring_held c.args.ring.now) c.requires.two_way

pub overflow_cast-link : goal.overflow_cast-link
overflow_cast-link c = let k = (turn (goal.at.overflow_cast-link c).In-Some).turn in record { fits = omega (arith, k.number_is, k.below, c.args.ring.now.lent.accepted.boards) }

pub put_two_way-requires-clause-fits : goal.put_two_way-requires-clause-fits
unfolding ahead behind
put_two_way-requires-clause-fits c =
    let w = (goal.at.put_two_way-requires-clause-fits c).In-Some in
    rw ((turn w).turn.value_is, taken w) (simp (length-take, length-drop) (omega (arith, room w, c.loop-link.invariant.front.same)))

pub put_two_way-requires-clause-in_time : goal.put_two_way-requires-clause-in_time
put_two_way-requires-clause-in_time c =
    let a = c.args.ring.now in
    let w = (goal.at.put_two_way-requires-clause-in_time c).In-Some in
    rw ((turn w).turn.value_is, (turn w).beside_is, taken w, turns w) (in_time (ring_held a) c.requires.two_way a.lent.accepted (length c.loop-link.yielded) (turn w).turn.below)

pub loop-link-preserved : goal.loop-link-preserved
unfolding ahead behind
loop-link-preserved c =
    let a = c.args.ring.now in
    let r = ring_held a in
    let w = (goal.at.loop-link-preserved c).In-Some in
    let k = turn w in
    let l = c.loop-link in
    let i : ℕ = length l.yielded in
    let level_is = k.turn.value_is in
    let o = taken w in
    let T = turns w in
    let items : ℕ → ℕ → ℕ = λ h o. (h - o) + (o - h) in
    let items_are : c.abs_diff.result ≡ carries r (offset r) i = c.abs_diff.ensures ∙ (λ t. abs_diff (level_is t) (o t)) in
    let part : List ℕ = mid_of l.at (length l.buf - l.at) l.buf in
    let wrote =
    c.put_two_way.ensures
    ∙ (λ t. link_bytes (k.turn.number_is t) (direction_by (level_is t) (o t)) (start_two (level_is t) (o t) (T t) (k.beside_is t)) (items (level_is t) (o t)) ++ drop (6 * items (level_is t) (o t)) part)
    ∙ ap (λ (p : List ℕ). p ++ drop (6 * carries r (offset r) i) part) (piece_is r c.requires.two_way i) in
    rw (length_push l.yielded (c.in-Some.link, (c.in-Some.level, c.in-Some.cost)), items_are)
    (one_more (piece r (offset r)) (carries r (offset r)) c.args.buf.now c.put_two_way.new.part l.invariant (link_long _ _ _ _) (room w) wrote)

pub returns : goal.returns
unfolding moves
returns c =
    let a = c.args.ring.now in
    let r = ring_held a in
    let g = level r in
    let l = c.loop-link in
    let n =
    paired_end g a.shape.n a.costs.now a.lent.costs_long (paired g a.shape.n a.costs.now c.levels.result c.into_iter-link-iterator.result c.levels.ensures (cc) (cc) (cc))
    l.yielded l.link-iterator l.yielded_by c.next.result c.next.new.self c.next.ensures.steps c.in-None.is
    in
    all_written (piece r (offset r)) (carries r (offset r)) c.args.buf.now a.shape.n n l.invariant
    ∙ (λ t. (take 15 c.args.buf.now ++ sym (records_plan r (offset r)) t) ++ drop (plan_length r) c.args.buf.now)
