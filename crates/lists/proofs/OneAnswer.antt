-- No two answers, and no two states of the lent buffer, fit the contract of `plan_for`. Assumes nothing.
use mathlib.Core.Path.{◌≡◌, sym, ◌∙◌}
use borrow.Fn.Kinds.{Dens, res_t, ended_of}
use contract.Lifetimes.{Lfts}
use denote.Triple.Clauses.{AtExit}
use Rattle.lists.proofs.plan_for.Kinds as plan-for
use Rattle.lists.proofs.plan_for.Reads as plan-for-said

-- lifetimes, the arguments, two answers, and what is lent as the function returns
pub one_plan_for : (κs : Lfts 2) (a : Dens κs plan-for.ps) (x y : (res_t plan-for.r κs).Denot) (s t : AtExit (ended_of 2 plan-for.ps plan-for.r) κs)
    → plan-for-said.Post κs a x s → plan-for-said.Post κs a y t → (x ≡ y) × (s.1.0.now ≡ t.1.0.now)
one_plan_for κs a x y s t p q = (p.0 ∙ sym q.0, p.1 ∙ sym q.1)
