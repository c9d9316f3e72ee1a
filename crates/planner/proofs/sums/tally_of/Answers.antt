-- `sums::tally_of`: what each link carries, and how long it takes for it, is added. Assumes nothing.
use Rattle.std.proofs.Common.{◌≡◌, ◌≤◌, ◌+◌, ◌*◌, ℕ, refl, ◌∙◌, arith, length, add-one, mul_comm, max, ltb}
use Rattle.std.specs.Int.{abs_diff}
use Rattle.std.proofs.lemmas.List.{length_push}
use Rattle.ring.specs.Numbers.{pick, sum}
use Rattle.ring.specs.Boards.{most_load}
use Rattle.ring.specs.Plan.{level, offset, carries, link_time, moves, tight, ahead, behind}
use Rattle.ring.proofs.Bounds.{moves_most}
use Rattle.ring.proofs.Offset.{fits}
use Rattle.planner.proofs.Grow.{sum_within}
use Rattle.planner.specs.Held.{ring_held}
use Rattle.planner.proofs.Walks.{PairTurn, paired, paired_turn, paired_end}
use Rattle.planner.proofs.SumWalk.{highest, summit, highest_is, summit_is}
use Rattle.planner.proofs.sums.tally_of.Goals as goal
use Rattle.planner.proofs.sums.tally_of.Goals.{After-abs_diff-items}

pub loop-link-init : goal.loop-link-init
unfolding sum highest summit
loop-link-init c = record { moves = refl; tight = refl; slowest = refl }

-- where the walk is
turn : (c : After-abs_diff-items) → PairTurn (level (ring_held c.args.ring.now)) c.args.ring.now.shape.n c.args.ring.now.costs.now (length c.loop-link.yielded) c.in-Some.link c.in-Some.level c.in-Some.cost.now
turn c =
    let a = c.args.ring.now in
    let g = level (ring_held a) in
    let way = paired g a.shape.n a.costs.now c.levels.result c.into_iter-link-iterator.result c.levels.ensures (cc) (cc) (cc) in
    paired_turn g a.shape.n a.costs.now a.lent.costs_long way c.loop-link.yielded c.loop-link.link-iterator c.loop-link.yielded_by c.next.result c.next.new.self c.next.ensures.steps _ c.in-Some.is

pub overflow_cast-link : goal.overflow_cast-link
overflow_cast-link c = let k = (turn c).turn in omega (arith, c.args.ring.now.lent.accepted.boards)

-- what its link carries
carried : (c : After-abs_diff-items) → c.abs_diff-items.result ≡ carries (ring_held c.args.ring.now) c.args.offset (length c.loop-link.yielded)
unfolding ahead behind
carried c = c.abs_diff-items.ensures ∙ (λ t. abs_diff ((turn c).turn.value_is t) c.args.offset)

pub with_link-tally-requires : goal.with_link-tally-requires
unfolding moves
with_link-tally-requires c =
    let a = c.args.ring.now in
    let r = ring_held a in
    let w = (goal.at.with_link-tally-requires c).After-abs_diff-items in
    let within = sum_within (carries r c.args.offset) (length c.loop-link.yielded) a.shape.n (turn w).turn.below in
    let few : moves r c.args.offset ≤ 128 * (128 * most_load) = rw c.requires (moves_most r a.lent.accepted (offset r) (fits r a.lent.accepted)) in
    omega (arith, carried w, c.loop-link.invariant.moves)

pub loop-link-preserved : goal.loop-link-preserved
unfolding sum highest summit
loop-link-preserved c =
    let a = c.args.ring.now in
    let w = (goal.at.loop-link-preserved c).After-abs_diff-items in
    let k = turn w in
    let is = carried w in
    let i : ℕ = length c.loop-link.yielded in
    let ticks = c.link_time.ensures ∙ mul_comm c.in-Some.cost.now c.abs_diff-items.result ∙ (λ t. is t * k.beside_is t) in
    let with = c.with_link-tally.ensures in
    let before = c.loop-link.invariant in
    rw (length_push c.loop-link.yielded (c.in-Some.link, (c.in-Some.level, c.in-Some.cost)), add-one, sum, highest, summit)
    (record {
      moves = with.moves_value ∙ (λ t. before.moves t + is t);
      tight = with.tight_value ∙ (λ t. pick (ltb (before.slowest t) (ticks t)) (k.turn.number_is t) (before.tight t));
      slowest = with.slowest_value ∙ (λ t. max (before.slowest t) (ticks t));
    })

pub returns : goal.returns
unfolding moves tight
returns c =
    let a = c.args.ring.now in
    let r = ring_held a in
    let g = level r in
    let time = link_time r c.args.offset in
    let way = paired g a.shape.n a.costs.now c.levels.result c.into_iter-link-iterator.result c.levels.ensures (cc) (cc) (cc) in
    let n = paired_end g a.shape.n a.costs.now a.lent.costs_long way c.loop-link.yielded c.loop-link.link-iterator c.loop-link.yielded_by c.next.result c.next.new.self c.next.ensures.steps c.in-None.is in
    let some : 1 ≤ a.shape.n = omega (arith, a.lent.accepted.boards) in
    let inv = rw n at c.loop-link.invariant in
    let tight = inv.tight ∙ summit_is time a.shape.n some in
    let slowest = inv.slowest ∙ highest_is time a.shape.n some in
    (λ t. record { moves = record { 0 = inv.moves t }; tight = tight t; slowest = record { 0 = slowest t } })
