-- From bytes to lists: what `columns` answers and leaves, by its contract, for every job. Assumes nothing.
use mathlib.Core.Path.{◌≡◌, sym, ap, ◌∙◌}
use mathlib.Core.List.{List, ◌++◌}
use Prim.Native.Nat.{ℕ, ◌≤◌, ◌<◌}
use lib.ListN.{length, drop}
use Rattle.ring.specs.Boards.{Ring}
use Rattle.ring.specs.Plan.{offset}
use Rattle.ring.specs.Columns.{N, columns_of}
use Rattle.std.specs.Prelude.{Result, Ok, Err}
use Rattle.hop.specs.declared.Shape.{Shape}
use Rattle.hop.specs.declared.Job.{Job}
use Rattle.hop.specs.declared.refusals.Refusal.{Refusal}
use Rattle.hop.specs.declared.refusals.Refusal.TheVariants.{ShortList}
use Rattle.hop.specs.Read.{job_of}
use Rattle.planner.specs.declared.Planned.{Planned}
use Rattle.planner.specs.PlanBytes.{plan_length}
use Rattle.planner.specs.Answer.{ring_for, plan_answer, plan_memory}
use Rattle.planner.proofs.Closing.{numbers_of, closed}
use Rattle.lists.specs.Listed.{lacking}
use Rattle.lists.proofs.Listing.{enough_answer, short_answer, planner_first, refused_plan, refused_list, let_through}
use Rattle.columns.specs.Call.{columns_in, columns_answer, columns_plan, columns_by, columns_list}

-- a call that is refused leaves what was lent
abbrev pub Kept : (s xs ys : List ℕ) → Refusal → Type 0
Kept s xs ys refusal =
    (columns_answer (job_of s) (length xs) (length ys) ≡ Err refusal) × (columns_plan (job_of s) (length ys) xs ≡ xs) × (columns_list (job_of s) (length xs) ys ≡ ys)

kept : (s xs ys : List ℕ) {refusal : Refusal} → columns_answer (job_of s) (length xs) (length ys) ≡ Err refusal → Kept s xs ys refusal
kept s xs ys e =
    let job = job_of s in
    let k = columns_in job job.answer in
    (e, sym (refused_plan 16 k job (length ys) xs e), sym (refused_list 16 k job (columns_by job job.answer) (length xs) ys e))

-- the planner's refusals, 1 to 13, come first
pub planner_refuses : (s xs ys : List ℕ) (refusal : Refusal) → plan_answer (job_of s) (length xs) ≡ Err refusal → Kept s xs ys refusal
planner_refuses s xs ys refusal e = kept s xs ys (planner_first 16 (columns_in (job_of s) (job_of s).answer) (job_of s) (length xs) (length ys) e)

-- an accepted job, and a buffer with room for its plan
module _ (s xs ys : List ℕ) (shape : Shape) (read : (job_of s).answer ≡ Ok shape) (room : plan_length (ring_for (job_of s) shape) ≤ length xs) where
  abbrev job : Job
  job = job_of s

  abbrev ring : Ring
  ring = ring_for job shape

  planned : plan_answer job (length xs) ≡ Ok (numbers_of ring)
  planned = (closed s xs shape read room).answer

  -- N of the job is its ring's
  needs : columns_in job job.answer ≡ N ring
  needs = ap (columns_in job) read

  -- a list with a place for each column: the planner's answer and bytes, and the boards' lists end to end, and then what was there
  pub filled : N ring ≤ length ys
      → (columns_answer job (length xs) (length ys) ≡ plan_answer job (length xs)) × (columns_plan job (length ys) xs ≡ plan_memory job xs) × (columns_list job (length xs) ys ≡ columns_of ring (offset ring) ++ drop (N ring) ys)
  filled h =
      let e = enough_answer 16 (columns_in job job.answer) job (length xs) (length ys) (rw needs h) in
      let l = let_through 16 (columns_in job job.answer) job (columns_by job job.answer) xs ys (sym e ∙ planned) in
      (sym e, l.written, sym l.fills ∙ (λ t. columns_by job (read t) ys))

  -- "16, list shorter than N, after 13", board 0, and buffer and list keep what they have
  pub short : length ys < N ring → Kept s xs ys (ShortList 16 0)
  short h =
      kept s xs ys (sym (short_answer 16 (columns_in job job.answer) job (length xs) (length ys) (rw needs h)) ∙ ap (λ (p : Result Planned Refusal). lacking 16 p) planned)
