-- `rules::check`: the walk has seen the first i boards.
use Rattle.hop.proofs.Walked.{Walked}
use Rattle.hop.proofs.rules.check.Given as goal

abbrev pub invariant-loop-i : goal.invariant-loop-i
invariant-loop-i g l = Walked l.ring.n (g.B.Boards.load l.boards) (g.B.Boards.surplus l.boards) (g.B.Boards.cost l.boards) l.i l.seen
