-- No two answers, and no two states of a lent buffer, fit the contract of an exported function. Assumes nothing.
use mathlib.Core.Path.{◌≡◌, sym, ◌∙◌}
use borrow.Fn.Kinds.{Dens, res_t, ended_of}
use contract.Lifetimes.{Lfts}
use denote.Triple.Clauses.{AtExit}
use Rattle.planner.proofs.plan.Kinds as plan
use Rattle.planner.proofs.plan.Reads as plan-said
use Rattle.planner.proofs.weigh.Kinds as weigh
use Rattle.planner.proofs.weigh.Reads as weigh-said
use Rattle.planner.proofs.crossings.traffic_of.Kinds as traffic
use Rattle.planner.proofs.crossings.traffic_of.Reads as traffic-said
use Rattle.planner.proofs.turning.turn_of.Kinds as turn
use Rattle.planner.proofs.turning.turn_of.Reads as turn-said

-- of each: lifetimes, the arguments, two answers, and what is lent as the function returns
pub one_plan : (κs : Lfts 2) (a : Dens κs plan.ps) (x y : (res_t plan.r κs).Denot) (s t : AtExit (ended_of 2 plan.ps plan.r) κs)
    → plan-said.Post κs a x s → plan-said.Post κs a y t → (x ≡ y) × (s.1.0.now ≡ t.1.0.now)
one_plan κs a x y s t p q = (p.0 ∙ sym q.0, p.1 ∙ sym q.1)

pub one_weigh : (κs : Lfts 1) (a : Dens κs weigh.ps) (x y : (res_t weigh.r κs).Denot) (s t : AtExit (ended_of 1 weigh.ps weigh.r) κs)
    → weigh-said.Post κs a x s → weigh-said.Post κs a y t → x ≡ y
one_weigh κs a x y s t p q = p ∙ sym q

pub one_traffic : (κs : Lfts 1) (a : Dens κs traffic.ps) (x y : (res_t traffic.r κs).Denot) (s t : AtExit (ended_of 1 traffic.ps traffic.r) κs)
    → traffic-said.Post κs a x s → traffic-said.Post κs a y t → x ≡ y
one_traffic κs a x y s t p q = p ∙ sym q

pub one_turn : (κs : Lfts 1) (a : Dens κs turn.ps) (x y : (res_t turn.r κs).Denot) (s t : AtExit (ended_of 1 turn.ps turn.r) κs)
    → turn-said.Post κs a x s → turn-said.Post κs a y t → x ≡ y
one_turn κs a x y s t p q = p ∙ sym q
