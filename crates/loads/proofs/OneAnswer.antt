-- No two answers, and no two states of the lent buffer and the lent list, fit the contract of the query. Assumes nothing.
use mathlib.Core.Path.{◌≡◌, sym, ◌∙◌}
use borrow.Fn.Kinds.{Dens, res_t, ended_of}
use contract.Lifetimes.{Lfts}
use denote.Triple.Clauses.{AtExit}
use Rattle.loads.proofs.loads.Kinds as loads
use Rattle.loads.proofs.loads.Reads as loads-said

-- lifetimes, the arguments, two answers, and what is lent as the function returns
pub one_loads : (κs : Lfts 3) (a : Dens κs loads.ps) (x y : (res_t loads.r κs).Denot) (s t : AtExit (ended_of 3 loads.ps loads.r) κs)
    → loads-said.Post κs a x s → loads-said.Post κs a y t → (x ≡ y) × (s.1.1.0.now ≡ t.1.1.0.now) × (s.1.1.1.0.now ≡ t.1.1.1.0.now)
one_loads κs a x y s t p q = (p.0 ∙ sym q.0, p.1.0 ∙ sym q.1.0, p.1.1 ∙ sym q.1.1)
