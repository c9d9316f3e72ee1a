-- What the loads query answers, and what it leaves in the lent buffer and the lent list, for every job that the reader answers.
use Rattle.std.specs.Prelude.{List, ℕ, Result, Ok, Err}
use Rattle.ring.specs.Lists.{fill}
use Rattle.ring.specs.Schedule.{load_at}
use Rattle.ring.specs.Plan.{offset, plan}
use Rattle.hop.specs.declared.Shape.{Shape}
use Rattle.hop.specs.declared.refusals.Refusal.{Refusal}
use Rattle.hop.specs.declared.Job.{Job}
use Rattle.planner.specs.declared.Planned.{Planned}
use Rattle.planner.specs.Answer.{ring_for}
use Rattle.lists.specs.Listed.{ListGives, list_answer, list_plan, list_after}

-- n where a ring was read, else 0: the places that the query needs
abbrev pub boards_of : Result Shape Refusal → ℕ
boards_of (Ok shape) = shape.n
boards_of (Err refusal) = 0

-- the query's numbers: the planner's, and 14
abbrev pub QueryGives : ℕ → Type 0
QueryGives = ListGives 14

-- the query's answer, for so many bytes of room and so many places: the planner's, or 14 where the places are fewer than n
abbrev pub query_answer : Job → ℕ → ℕ → Result Planned Refusal
query_answer job = list_answer 14 (boards_of job.answer) job

-- the buffer afterwards: as the planner leaves it, or after any refusal, 14 too, as it was
abbrev pub query_plan : Job → ℕ → List ℕ → List ℕ
query_plan job = list_plan 14 (boards_of job.answer) job

-- the load of each board at the tick in the list's first n places, and then what was there
abbrev pub loads_by : Job → Result Shape Refusal → ℕ → List ℕ → List ℕ
loads_by job (Ok shape) tick ys = let r = ring_for job shape in fill (λ i. load_at r (plan r (offset r)) i tick) shape.n ys
loads_by job (Err refusal) tick ys = ys

-- the list afterwards
abbrev pub query_loads : Job → ℕ → ℕ → List ℕ → List ℕ
query_loads job tick = list_after 14 (boards_of job.answer) job (loads_by job job.answer tick)
