-- What is known of a job's turn: how many columns there are, and, where a plan is given, that they are laid from board 0's first on. Assumes nothing.
use mathlib.Core.Path.{◌≡◌, refl, sym, ap, ◌∙◌}
use mathlib.Core.List.{List, ◌++◌}
use Prim.Native.Nat.{ℕ, ◌<◌}
use native.Mathlib.Nat.{mod-lt}
use lib.ListN.{drop}
use Rattle.ring.specs.Plan.{offset}
use Rattle.ring.specs.Columns.{N, stretch}
use Rattle.ring.proofs.ColumnsCounts.{some}
use Rattle.ring.proofs.Order1.{columns_are, begins_at_offset}
use Rattle.hop.specs.declared.Shape.{Shape}
use Rattle.hop.specs.declared.refusals.Refusal.{Refusal}
use Rattle.std.specs.Prelude.{Result, Ok, Err}
use Rattle.hop.specs.declared.Job.{Job}
use Rattle.hop.specs.Read.{job_of}
use Rattle.hop.proofs.Accepted.{job_accepted}
use Rattle.planner.specs.declared.Planned.{Planned}
use Rattle.planner.specs.declared.Turn.{Turn}
use Rattle.planner.specs.Answer.{ring_for, plan_answer}
use Rattle.planner.specs.Turn.{turn_by, turn_of}
use Rattle.planner.proofs.Reading.{planned_of}
use Rattle.columns.specs.Call.{columns_in, columns_by}

-- as many columns as the call needs places
pub columns_run : (job : Job) {turn : Turn} → turn ≡ turn_of job → turn.columns ≡ columns_in job job.answer
unfolding turn_of
columns_run job e = ap (λ (t : Turn). t.columns) e ∙ by_check job.answer
  where
    by_check : (c : Result Shape Refusal) → (turn_by job c).columns ≡ columns_in job c
    by_check (Ok shape) = refl
    by_check (Err refusal) = refl

-- board 0's first is one of them, and laid in a list from it on they are the played lists
pub record Turned (job : Job) (turn : Turn) : Type 0 where
  pub below : turn.first < turn.columns
  pub laid : (ys : List ℕ) → stretch turn.columns turn.first turn.columns ++ drop turn.columns ys ≡ columns_by job job.answer ys

module _ (s : List ℕ) where
  turned_ring : (shape : Shape) → (job_of s).answer ≡ Ok shape → Turned (job_of s) (turn_of (job_of s))
  unfolding turn_of
  turned_ring shape is =
      let r = ring_for (job_of s) shape in
      let ok = job_accepted s shape is in
      rw is (record { below = rw (begins_at_offset r ok) (mod-lt (offset r) (some r ok)); laid = λ ys. ap (λ (xs : List ℕ). xs ++ drop (N r) ys) (sym (columns_are r ok)) })

  pub turned : (room : ℕ) {p : Planned} → plan_answer (job_of s) room ≡ Ok p → {turn : Turn} → turn ≡ turn_of (job_of s) → Turned (job_of s) turn
  turned room e is = let of = planned_of (job_of s) room e in rw is (turned_ring of.shape of.read)
