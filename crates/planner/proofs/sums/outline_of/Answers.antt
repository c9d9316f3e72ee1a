-- `sums::outline_of`: the steps put together. Assumes nothing.
use Rattle.std.proofs.Common.{◌≡◌, ◌<◌, ◌*◌, ap, ◌∙◌, arith, refl, eqb, Bool, true, false, ℕ}
use Rattle.ring.specs.Numbers.{pick}
use Rattle.ring.specs.Lists.{each}
use Rattle.ring.specs.Plan.{finish_of, rounds}
use Rattle.ring.proofs.Level.{low_le, le_high}
use Rattle.hop.specs.Kinds.{number_of}
use Rattle.planner.specs.Held.{ring_held}
use Rattle.planner.specs.Outline.{tally_of}
use Rattle.planner.proofs.sums.outline_of.Goals as goal

-- T that is 0 in the kinds that ask for none
rounds_asked : (b : Bool) (turns cost other : ℕ) → pick b (pick b turns 0 * cost) other ≡ pick b (turns * cost) other
rounds_asked true turns cost other = refl
rounds_asked false turns cost other = refl

pub overflow_sub-spread : goal.overflow_sub-spread
overflow_sub-spread c =
    let a = c.args.ring.now in
    let r = ring_held a in
    let ok = a.lent.accepted in
    let some : 0 < a.shape.n = omega (arith, ok.boards) in
    rw c.span_of-span.ensures (omega (arith, low_le r ok 0 some, le_high r ok 0 some))

pub returns : goal.returns
unfolding finish_of
returns c =
    let a = c.args.ring.now in
    let r = ring_held a in
    let o = c.offset-offset.ensures in
    let t = c.tally_of-tally.ensures ∙ ap (tally_of r) o in
    let finish = c.finish.ensures ∙ (λ k. pick (eqb (number_of a.shape.kind) 3) (c.rounds.ensures k * each a.costs.now 0) (t k).slowest.0) ∙ rounds_asked (eqb (number_of a.shape.kind) 3) (rounds r) (each a.costs.now 0) _ in
    λ k. record { offset = o k; rounds = record { 0 = c.rounds.ensures k }; moves = (t k).moves; tight = (t k).tight; finish = record { 0 = finish k } }
