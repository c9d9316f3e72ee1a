-- `links::idle_of`: the walk comes to a link that carries nothing, and its records begin where those so far end. Assumes nothing.
use Rattle.std.proofs.Common.{◌≡◌, ℕ, ◌*◌, ◌-◌, ◌≤◌, refl, sym, ◌∙◌, length, add-one, inl, inr, arith}
use Rattle.std.proofs.lemmas.List.{length_push}
use Rattle.ring.specs.Numbers.{sum}
use Rattle.ring.specs.Boards.{most_load}
use Rattle.ring.specs.Plan.{level, low, offset, carries, moves, ahead, behind}
use Rattle.ring.proofs.Tests.{le_lt}
use Rattle.ring.proofs.Level.{low_le, low_at}
use Rattle.ring.proofs.Offset.{one_way, fits}
use Rattle.ring.proofs.Bounds.{moves_most}
use Rattle.planner.specs.Held.{ring_held}
use Rattle.planner.proofs.Grow.{sum_within}
use Rattle.planner.proofs.Walks.{Turn, numbered, numbered_turn, numbered_end}
use Rattle.planner.proofs.links.idle_of.Goals as goal
use Rattle.planner.proofs.links.idle_of.Goals.{In-Some}

pub loop-link-init : goal.loop-link-init
unfolding sum
loop-link-init c = record { place = refl; none = λ j h e. omega arith }

-- where the walk is
turn : (c : In-Some) → Turn (level (ring_held c.args.ring.now)) c.args.ring.now.shape.n (length c.loop-link.yielded) c.in-Some.link c.in-Some.level
turn c =
    let a = c.args.ring.now in
    let g = level (ring_held a) in
    numbered_turn g a.shape.n (numbered g a.shape.n c.levels.result c.into_iter-link-iterator.result c.levels.ensures (cc) (cc))
    c.loop-link.yielded c.loop-link.link-iterator c.loop-link.yielded_by c.next.result c.next.new.self c.next.ensures.steps _ c.in-Some.is

-- the offset is the least level
least : (c : In-Some) → c.args.offset ≡ low (ring_held c.args.ring.now)
least c = c.requires.known ∙ one_way (ring_held c.args.ring.now) c.requires.one_way

above : (c : In-Some) → c.args.offset ≤ c.in-Some.level
above c =
    let a = c.args.ring.now in
    let k = turn c in
    omega (arith, least c, k.value_is, low_le (ring_held a) a.lent.accepted (length c.loop-link.yielded) k.below)

-- what the link carries
carried : (c : In-Some) → c.in-Some.level - c.args.offset ≡ carries (ring_held c.args.ring.now) c.args.offset (length c.loop-link.yielded)
unfolding ahead behind
carried c = omega (arith, above c, (turn c).value_is)

pub returns-then-level-offset-clause-carries : goal.returns-then-level-offset-clause-carries
returns-then-level-offset-clause-carries c =
    let w = (goal.at.returns-then-level-offset-clause-carries c).In-Some in
    rw (turn w).number_is (omega (arith, carried w, c.if-level-offset.true))

pub returns-then-level-offset-clause-place : goal.returns-then-level-offset-clause-place
returns-then-level-offset-clause-place c =
    let k = turn (goal.at.returns-then-level-offset-clause-place c).In-Some in
    record { link = omega (arith, k.number_is, k.below); at = rw (k.number_is, ← c.requires.known) c.loop-link.invariant.place }

pub overflow_sub-at : goal.overflow_sub-at
overflow_sub-at c = above (goal.at.overflow_sub-at c).In-Some

pub overflow_add-at : goal.overflow_add-at
unfolding moves
overflow_add-at c =
    let a = c.args.ring.now in
    let r = ring_held a in
    let w = (goal.at.overflow_add-at c).In-Some in
    let within = sum_within (carries r c.args.offset) (length c.loop-link.yielded) a.shape.n (turn w).below in
    let few : moves r c.args.offset ≤ 128 * (128 * most_load) = rw c.requires.known (moves_most r a.lent.accepted (offset r) (fits r a.lent.accepted)) in
    record { fits = omega (arith, carried w, c.loop-link.invariant.place) }

pub loop-link-preserved : goal.loop-link-preserved
unfolding sum
loop-link-preserved c =
    let w = (goal.at.loop-link-preserved c).In-Some in
    let i : ℕ = length c.loop-link.yielded in
    rw (length_push c.loop-link.yielded (c.in-Some.link, c.in-Some.level), add-one, sum)
    (record {
      place = omega (arith, carried w, c.loop-link.invariant.place);
      none = λ j h e. elim (le_lt i j) [ inl p ↦ let q : j ≡ i = omega arith in c.if-level-offset.false ((turn w).value_is ∙ (rw q at e)) | inr p ↦ c.loop-link.invariant.none j p e ];
    })

pub unreachable-requires : goal.unreachable-requires
unreachable-requires c =
    let a = c.args.ring.now in
    let r = ring_held a in
    let g = level r in
    let l = c.loop-link in
    let n =
    numbered_end g a.shape.n (numbered g a.shape.n c.levels.result c.into_iter-link-iterator.result c.levels.ensures (cc) (cc))
    l.yielded l.link-iterator l.yielded_by c.next.result c.next.new.self c.next.ensures.steps c.in-None.is
    in
    let (i, h, e) = low_at r a.lent.accepted in
    l.invariant.none i (omega (arith, n)) (e ∙ sym (c.requires.known ∙ one_way r c.requires.one_way))
