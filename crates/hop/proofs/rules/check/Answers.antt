-- `rules::check`: the walk goes on with the numbers of the next board. Assumes nothing.
use Rattle.std.proofs.Common.{◌≡◌, refl, sym, ap, subst, ◌∙◌, pos, FitsSigned, w16, rules, arith}
use Rattle.hop.specs.declared.Numbers.{Numbers}
use Rattle.hop.specs.declared.rules.Seen.{Seen}
use Rattle.hop.specs.Seen.{seen_with}
use Rattle.hop.proofs.Walked.{none, more, stopped, settled}
use Rattle.hop.proofs.rules.check.Goals as goal
use Rattle.hop.proofs.rules.check.Goals.{After-with}

pub loop-i-init : goal.loop-i-init
loop-i-init g c = none (c.none-seen.ensures ∙ ap (λ (x : Numbers). let s : Seen = record { first = x.cost; alike = 0; sum = pos 0 } in s) c.numbers.ensures)

-- what is said of the next board is said of its numbers
seen : (g : _) (c : After-with g) → c.with.result ≡ seen_with c.loop-i.seen c.loop-i.i (g.B.Boards.load c.args.boards.now c.loop-i.i) (g.B.Boards.surplus c.args.boards.now c.loop-i.i) (g.B.Boards.cost c.args.boards.now c.loop-i.i)
seen g c = c.with.ensures ∙ ap (λ (x : Numbers). seen_with c.loop-i.seen c.loop-i.i x.load x.surplus x.cost) c.numbers-in-loop-i.ensures

pub returns-in-Err : goal.returns-in-Err
returns-in-Err g c = stopped c.loop-i.invariant (omega arith) c.args.ring refl (sym (seen g (goal.at.returns-in-Err g c).After-with) ∙ c.in-Err.is)

pub loop-i-preserved : goal.loop-i-preserved
loop-i-preserved g c =
    more c.loop-i.invariant (omega arith) (subst (λ (x : Numbers). FitsSigned w16 x.surplus) c.numbers-in-loop-i.ensures (search rules))
    (sym (seen g (goal.at.loop-i-preserved g c).After-with) ∙ c.in-Ok.is)

pub returns : goal.returns
returns g c = c.settled.ensures ∙ settled c.args.ring refl c.loop-i.invariant c.loop-i-test.false
