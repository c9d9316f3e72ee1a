-- A call that plans a job and fills a lent list beside the plan: what it answers, and what it leaves in the lent buffer and the lent list.
-- It has a refusal number of its own, for a list with fewer places than it needs, which comes after the planner's.
use Rattle.std.specs.Prelude.{◌≡◌, List, ◌⊎◌, ℕ, ltb, length, Result, Ok, Err}
use Rattle.ring.specs.Numbers.{pick}
use Rattle.hop.specs.declared.Job.{Job}
use Rattle.hop.specs.declared.refusals.Refusal.{Refusal}
use Rattle.hop.specs.declared.refusals.Refusal.TheVariants.{ShortList}
use Rattle.planner.specs.declared.Planned.{Planned}
use Rattle.planner.specs.Answer.{PlannerGives, plan_answer, plan_memory}

-- the call's own number in place of a plan's numbers; the planner's refusal comes first
abbrev pub lacking : ℕ → Result Planned Refusal → Result Planned Refusal
lacking own (Ok planned) = Err (ShortList own 0)
lacking own (Err refusal) = Err refusal

-- `after` where the answer is a plan's numbers; a refusal leaves what was there
abbrev pub unless_refused : Result Planned Refusal → List ℕ → List ℕ → List ℕ
unless_refused (Ok planned) after before = after
unless_refused (Err refusal) after before = before

-- the call's numbers: the planner's, and its own
abbrev pub ListGives : ℕ → ℕ → Type 0
ListGives own number = PlannerGives number ⊎ (number ≡ own)

-- a call with this number that needs so many places, on a job
module _ (own needed : ℕ) (job : Job) where
  -- the answer, for so many bytes of room and so many places: the planner's, or where the places are fewer than needed its refusal or the call's own
  unfoldable pub list_answer : ℕ → ℕ → Result Planned Refusal
  list_answer room places = pick (ltb places needed) (lacking own (plan_answer job room)) (plan_answer job room)

  -- the buffer afterwards: as the planner leaves it, or after any refusal, the call's own too, as it was
  unfoldable pub list_plan : ℕ → List ℕ → List ℕ
  list_plan places xs = unless_refused (list_answer (length xs) places) (plan_memory job xs) xs

  -- the list afterwards: as `filled` makes it, or after any refusal as it was
  unfoldable pub list_after : (List ℕ → List ℕ) → ℕ → List ℕ → List ℕ
  list_after filled room ys = unless_refused (list_answer room (length ys)) (filled ys) ys
