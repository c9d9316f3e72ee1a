-- No two answers, and no two states of what is lent, fit the contract of an exported function. Assumes nothing.
use mathlib.Core.Path.{◌≡◌, sym, ◌∙◌}
use borrow.Fn.Kinds.{Dens, res_t, ended_of}
use contract.Lifetimes.{Lfts}
use denote.Triple.Clauses.{AtExit}
use Rattle.capi.proofs.fallowroe_check.Kinds as check
use Rattle.capi.proofs.fallowroe_check.Reads as check-said
use Rattle.capi.proofs.fallowroe_write.Kinds as write
use Rattle.capi.proofs.fallowroe_write.Reads as write-said
use Rattle.capi.proofs.fallowroe_plan.Kinds as plan
use Rattle.capi.proofs.fallowroe_plan.Reads as plan-said
use Rattle.capi.proofs.fallowroe_loads.Kinds as loads
use Rattle.capi.proofs.fallowroe_loads.Reads as loads-said
use Rattle.capi.proofs.fallowroe_columns.Kinds as columns
use Rattle.capi.proofs.fallowroe_columns.Reads as columns-said

-- of each: lifetimes, the arguments, two answers, and what is lent as the function returns
pub one_check : (κs : Lfts 2) (a : Dens κs check.ps) (x y : (res_t check.r κs).Denot) (s t : AtExit (ended_of 2 check.ps check.r) κs)
    → check-said.Post κs a x s → check-said.Post κs a y t → (x ≡ y) × (s.1.0.now ≡ t.1.0.now)
one_check κs a x y s t p q = (p.0 ∙ sym q.0, p.1 ∙ sym q.1)

pub one_write : (κs : Lfts 5) (a : Dens κs write.ps) (x y : (res_t write.r κs).Denot) (s t : AtExit (ended_of 5 write.ps write.r) κs)
    → write-said.Post κs a x s → write-said.Post κs a y t
    → (x ≡ y) × (s.1.1.1.1.0.now ≡ t.1.1.1.1.0.now) × (s.1.1.1.1.1.0.now ≡ t.1.1.1.1.1.0.now)
one_write κs a x y s t p q = (p.0 ∙ sym q.0, p.1.0 ∙ sym q.1.0, p.1.1 ∙ sym q.1.1)

pub one_plan : (κs : Lfts 3) (a : Dens κs plan.ps) (x y : (res_t plan.r κs).Denot) (s t : AtExit (ended_of 3 plan.ps plan.r) κs)
    → plan-said.Post κs a x s → plan-said.Post κs a y t → (x ≡ y) × (s.1.0.now ≡ t.1.0.now) × (s.1.1.0.now ≡ t.1.1.0.now)
one_plan κs a x y s t p q = (p.0 ∙ sym q.0, p.1.0 ∙ sym q.1.0, p.1.1 ∙ sym q.1.1)

pub one_loads : (κs : Lfts 4) (a : Dens κs loads.ps) (x y : (res_t loads.r κs).Denot) (s t : AtExit (ended_of 4 loads.ps loads.r) κs)
    → loads-said.Post κs a x s → loads-said.Post κs a y t
    → (x ≡ y) × (s.1.1.0.now ≡ t.1.1.0.now) × (s.1.1.1.0.now ≡ t.1.1.1.0.now) × (s.1.1.1.1.0.now ≡ t.1.1.1.1.0.now)
one_loads κs a x y s t p q = (p.0 ∙ sym q.0, p.1.0 ∙ sym q.1.0, p.1.1.0 ∙ sym q.1.1.0, p.1.1.1 ∙ sym q.1.1.1)

pub one_columns : (κs : Lfts 4) (a : Dens κs columns.ps) (x y : (res_t columns.r κs).Denot) (s t : AtExit (ended_of 4 columns.ps columns.r) κs)
    → columns-said.Post κs a x s → columns-said.Post κs a y t
    → (x ≡ y) × (s.1.0.now ≡ t.1.0.now) × (s.1.1.0.now ≡ t.1.1.0.now) × (s.1.1.1.0.now ≡ t.1.1.1.0.now)
one_columns κs a x y s t p q = (p.0 ∙ sym q.0, p.1.0 ∙ sym q.1.0, p.1.1.0 ∙ sym q.1.1.0, p.1.1.1 ∙ sym q.1.1.1)
