-- Which refusal numbers a call that fills a list gives, and with which board. Assumes nothing.
use Rattle.std.proofs.Common.{refl, List, ℕ, ltb, get_or, Result, Ok, Err}
use mathlib.Core.Logic.{inl, inr}
use Rattle.ring.specs.Boards.{Within}
use Rattle.hop.specs.declared.refusals.Refusal.{Refusal}
use Rattle.hop.specs.Answers.{Gives}
use Rattle.hop.specs.Read.{job_of}
use Rattle.hop.proofs.Given.{picked, no_board}
use Rattle.planner.specs.declared.Planned.{Planned}
use Rattle.planner.specs.Answer.{of_planned, PlannerGives, plan_answer}
use Rattle.planner.proofs.Given.{planner_gives}
use Rattle.lists.specs.Listed.{lacking, ListGives, list_answer}

-- the planner's numbers with their boards, and the call's own with board 0
module _ (own : ℕ) (other : Within 7 10 own → ⊥) (s : List ℕ) (needed room places : ℕ) where
  pub list_gives : Gives (ListGives own) (get_or s 6 0) (of_planned (list_answer own needed (job_of s) room places))
  unfolding list_answer
  list_gives =
      let p = plan_answer (job_of s) room in
      let g = planner_gives s room in
      picked (λ (q : Result Planned Refusal). Gives (ListGives own) (get_or s 6 0) (of_planned q)) (ltb places needed) (short p g) (same p g)
    where
      -- with too few places its own, or the planner's refusal
      short : (p : Result Planned Refusal) → Gives PlannerGives (get_or s 6 0) (of_planned p) → Gives (ListGives own) (get_or s 6 0) (of_planned (lacking own p))
      short (Ok planned) g = (inr refl, no_board _ own other)
      short (Err refusal) g = (inl g.0, g.1)

      same : (p : Result Planned Refusal) → Gives PlannerGives (get_or s 6 0) (of_planned p) → Gives (ListGives own) (get_or s 6 0) (of_planned p)
      same (Ok planned) g = tt
      same (Err refusal) g = (inl g.0, g.1)
