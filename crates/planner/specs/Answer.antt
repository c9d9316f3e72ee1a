-- What the planner answers, and what it leaves in the lent buffer, for every job that the reader answers.
use Rattle.std.specs.Prelude.{List, [], ◌∷◌, ◌++◌, ℕ, ltb, length, drop, Result, Ok, Err}
use Rattle.ring.specs.Numbers.{pick}
use Rattle.ring.specs.Boards.{Ring, ring_in, Within}
use Rattle.ring.specs.Plan.{offset, finish_of, moves, tight}
use Rattle.hop.specs.declared.Shape.{Shape}
use Rattle.hop.specs.declared.Job.{Job}
use Rattle.hop.specs.declared.refusals.Refusal.{Refusal}
use Rattle.hop.specs.declared.refusals.Refusal.TheVariants.{TooLate, NoRoom}
use Rattle.hop.specs.Kinds.{number_of}
use Rattle.hop.specs.Answers.{Answer, of_answer}
use Rattle.planner.specs.declared.Planned.{Planned}
use Rattle.planner.specs.PlanBytes.{record_place, plan_bytes, plan_length}

-- what the planner's answer says: finish, moves and tight link, or the refusal
abbrev pub of_planned : Result Planned Refusal → Answer
of_planned = of_answer (λ planned. planned.finish ∷ planned.moves ∷ planned.tight ∷ [])

-- the planner's numbers: the reader's, 12 and 13
abbrev pub PlannerGives : ℕ → Type 0
PlannerGives number = Within 1 13 number

-- for a plan's numbers and so many bytes of room: 12 where the finish is above 4,294,967,295, 13 where the plan is longer than the room, else
-- finish, moves and tight link
abbrev pub weighed_of : ℕ → ℕ → ℕ → ℕ → Result Planned Refusal
weighed_of finish moves tight room =
    pick (ltb 4294967295 finish) (Err TooLate)
    (pick (ltb room (record_place moves)) (Err NoRoom) (Ok (record { finish = finish; moves = moves; tight = tight })))

-- the same for an accepted ring
abbrev pub answer_for : Ring → ℕ → Result Planned Refusal
answer_for r room = weighed_of (finish_of r (offset r)) (moves r (offset r)) (tight r (offset r)) room

-- a buffer after such an answer: the plan's bytes and then what was there, or after a refusal all that was there
abbrev pub memory_for : Ring → Result Planned Refusal → List ℕ → List ℕ
memory_for r (Ok planned) xs = plan_bytes r ++ drop (plan_length r) xs
memory_for r (Err refusal) xs = xs

-- the ring of a job of this kind and n
abbrev pub ring_for : Job → Shape → Ring
ring_for job shape = ring_in (number_of shape.kind) shape.n job.loads job.surpluses job.costs

-- the answer for a job with this check: the reader's refusal, or that of its ring
abbrev pub answer_by : Job → ℕ → Result Shape Refusal → Result Planned Refusal
answer_by job room (Ok shape) = answer_for (ring_for job shape) room
answer_by job room (Err refusal) = Err refusal

-- the planner's answer to a job
unfoldable pub plan_answer : Job → ℕ → Result Planned Refusal
plan_answer job room = answer_by job room job.answer

-- a buffer after the answer for a job with this check
abbrev pub memory_by : Job → List ℕ → Result Shape Refusal → List ℕ
memory_by job xs (Ok shape) = let r = ring_for job shape in memory_for r (answer_for r (length xs)) xs
memory_by job xs (Err refusal) = xs

-- the buffer that the planner leaves
unfoldable pub plan_memory : Job → List ℕ → List ℕ
plan_memory job xs = memory_by job xs job.answer
