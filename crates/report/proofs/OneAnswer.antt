-- No two answers, and no two states of the lent buffers, fit the contract of an exported function. Assumes nothing.
use mathlib.Core.Path.{◌≡◌, sym, ◌∙◌}
use borrow.Fn.Kinds.{Dens, res_t, ended_of}
use contract.Lifetimes.{Lfts}
use denote.Triple.Clauses.{AtExit}
use Rattle.report.proofs.report.Kinds as report
use Rattle.report.proofs.report.Reads as report-said
use Rattle.report.proofs.printout.Kinds as printout
use Rattle.report.proofs.printout.Reads as printout-said

-- lifetimes, the arguments, two answers, and what is lent as the function returns: the plan's buffer, and the text's
pub one_report : (κs : Lfts 3) (a : Dens κs report.ps) (x y : (res_t report.r κs).Denot) (s t : AtExit (ended_of 3 report.ps report.r) κs)
    → report-said.Post κs a x s → report-said.Post κs a y t
    → (x ≡ y) × (s.1.0.now ≡ t.1.0.now) × (s.1.1.0.now ≡ t.1.1.0.now)
one_report κs a x y s t p q = (p.1.0 ∙ sym q.1.0, p.0 ∙ sym q.0, p.1.1 ∙ sym q.1.1)

-- the same with the text's buffer alone
pub one_printout : (κs : Lfts 2) (a : Dens κs printout.ps) (x y : (res_t printout.r κs).Denot) (s t : AtExit (ended_of 2 printout.ps printout.r) κs)
    → printout-said.Post κs a x s → printout-said.Post κs a y t
    → (x ≡ y) × (s.1.0.now ≡ t.1.0.now)
one_printout κs a x y s t p q = (p.0 ∙ sym q.0, p.1 ∙ sym q.1)
