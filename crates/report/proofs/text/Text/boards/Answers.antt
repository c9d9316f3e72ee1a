-- `Text::boards`: one board's line more. Assumes nothing.
use Rattle.std.proofs.Common.{◌≡◌, ◌<◌, ◌∷◌, ◌+◌, List, ℕ, length, drop, take, get_or, ap, sym, ◌∙◌, arith, length-append, length-drop, length-take, inl, inr}
use Rattle.std.proofs.lemmas.List.{get_or-take, drop_more}
use Rattle.std.specs.Iterator.Adapters.{enumerate_count}
use Rattle.ring.specs.Lists.{each, joined}
use Rattle.report.proofs.Decimal.{decimal_short}
use Rattle.report.proofs.Writing.{nothing, then, boards_short, boards_more}
use Rattle.report.proofs.text.Text.boards.Goals as goal
use Rattle.report.proofs.text.Text.boards.Goals.{In-Some}

-- the first of what is left of a list
next_of : (xs rest : List ℕ) (k x : ℕ) → drop k xs ≡ x ∷ rest → (k < length xs) × (x ≡ each xs k) × (rest ≡ drop (k + 1) xs)
next_of xs rest k x e =
    let here : k < length xs = omega (arith, ap length e, length-drop k xs) in
    let both = sym e ∙ drop_more xs k 0 here in
    (here, ap (λ l. get_or l 0 0) both, ap (drop 1) both)

pub loop-board-init : goal.loop-board-init
unfolding joined
loop-board-init c =
    rw (c.into_iter-board-iterator.ensures.into_iter_gives, c.enumerate-board-items.ensures.count, c.enumerate-board-items.ensures.source)
    (record { lines = nothing _; few = omega arith; sends = cc; receives = cc })

-- the board is one of the ring's
below : (c : In-Some) → c.in-Some.board < c.args.n
below c =
    let sends = c.args.traffic.now.sends in
    let step = c.in-Some.ensures.steps in
    omega (arith, step.1, (next_of (take c.args.n sends) _ _ _ (sym c.loop-board.invariant.sends ∙ step.0.0)).0, length-take c.args.n sends)

pub board-requires : goal.board-requires
board-requires c =
    let traffic = c.args.traffic.now in
    let b = below (goal.at.board-requires c).In-Some in
    let lines = rw (← c.in-Some.ensures.steps.1) at c.loop-board.invariant.lines in
    simp length-append (omega (arith, decimal_short, lines.longer, lines.room, boards_short (each traffic.sends) (each traffic.receives) c.in-Some.board))

pub loop-board-preserved : goal.loop-board-preserved
loop-board-preserved c =
    let traffic = c.args.traffic.now in
    let i = c.loop-board.invariant in
    let step = c.in-Some.ensures.steps in
    let b = below (goal.at.loop-board-preserved c).In-Some in
    let k = enumerate_count c.loop-board.board-iterator in
    let first = next_of (take c.args.n traffic.sends) _ k c.in-Some.sends.now (sym i.sends ∙ step.0.0) in
    let second = next_of traffic.receives _ k c.in-Some.receives.now (sym i.receives ∙ step.0.1) in
    let sends = first.1 ∙ get_or-take c.args.n traffic.sends k 0 (omega (arith, step.1)) in
    let line = rw (step.1, sends, second.1) at c.board.ensures in
    rw step.2 (record { lines = rw (boards_more (each traffic.sends) (each traffic.receives) k) (then i.lines line); few = omega (arith, step.1); sends = first.2; receives = second.2 })

pub returns : goal.returns
returns c =
    let traffic = c.args.traffic.now in
    let i = c.loop-board.invariant in
    let k = enumerate_count c.loop-board.board-iterator in
    let all : k ≡ c.args.n = elim c.in-None.ensures.steps.0 [
      | inl p ↦ omega (arith, p.1.0, i.few, ap length i.sends, length-drop k (take c.args.n traffic.sends), length-take c.args.n traffic.sends)
      | inr p ↦ omega (arith, p.1.0, i.few, ap length i.receives, length-drop k traffic.receives)
    ] in
    rw all at i.lines
