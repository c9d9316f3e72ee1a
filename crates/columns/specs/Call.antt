-- Document 02, order 1: what the columns call answers, and what it leaves in the lent buffer and the lent list, for every job that the reader answers.
use Rattle.std.specs.Prelude.{List, ◌++◌, ℕ, drop, Result, Ok, Err}
use Rattle.ring.specs.Plan.{offset}
use Rattle.ring.specs.Columns.{N, columns_of}
use Rattle.hop.specs.declared.Shape.{Shape}
use Rattle.hop.specs.declared.refusals.Refusal.{Refusal}
use Rattle.hop.specs.declared.Job.{Job}
use Rattle.planner.specs.declared.Planned.{Planned}
use Rattle.planner.specs.Answer.{ring_for}
use Rattle.lists.specs.Listed.{ListGives, list_answer, list_plan, list_after}

-- N where a ring was read, else 0: the places that the call needs
abbrev pub columns_in : Job → Result Shape Refusal → ℕ
columns_in job (Ok shape) = N (ring_for job shape)
columns_in job (Err refusal) = 0

-- the call's numbers: the planner's, and 16
abbrev pub ColumnsGives : ℕ → Type 0
ColumnsGives = ListGives 16

-- "Besides the plan and its answer": the answer, for so many bytes of room and so many places. "16, list shorter than N, after 13"
abbrev pub columns_answer : Job → ℕ → ℕ → Result Planned Refusal
columns_answer job = list_answer 16 (columns_in job job.answer) job

-- the buffer afterwards: as the planner leaves it, or after any refusal, 16 too, as it was
abbrev pub columns_plan : Job → ℕ → List ℕ → List ℕ
columns_plan job = list_plan 16 (columns_in job job.answer) job

-- "it fills a lent list of 32-bit numbers": the boards' lists end to end when the plan has been played, and then what was there
abbrev pub columns_by : Job → Result Shape Refusal → List ℕ → List ℕ
columns_by job (Ok shape) ys = let r = ring_for job shape in columns_of r (offset r) ++ drop (N r) ys
columns_by job (Err refusal) ys = ys

-- the list afterwards
abbrev pub columns_list : Job → ℕ → List ℕ → List ℕ
columns_list job = list_after 16 (columns_in job job.answer) job (columns_by job job.answer)
