-- From the job that was read to the planner's promise about its bytes. Assumes nothing.
use Rattle.std.proofs.Common.{◌≡◌, refl, sym, ap, subst, ◌∙◌, List, ℕ, Result, Ok, Err, arith}
use Rattle.hop.specs.declared.Shape.{Shape}
use Rattle.hop.specs.declared.Job.{Job}
use Rattle.hop.specs.declared.refusals.Refusal.{Refusal}
use Rattle.hop.specs.Kinds.{number_of}
use Rattle.hop.specs.Read.{job_of}
use Rattle.hop.proofs.First.{not_ok}
use Rattle.hop.proofs.Accepted.{job_accepted, after_is, arrays}
use Rattle.planner.specs.declared.Planned.{Planned}
use Rattle.planner.specs.Answer.{answer_by, memory_by, plan_answer, plan_memory}
use Rattle.planner.specs.Traffic.{traffic_by, traffic_of}
use Rattle.planner.specs.Turn.{turn_by, turn_of}
use Rattle.planner.specs.Lent.{Lent}

module _ (s : List ℕ) (job : Job) (is : job ≡ job_of s) where
  module _ (c : Result Shape Refusal) (told : job.answer ≡ c) where
    -- what is said of a job by its check
    known : {A : Type 0} (by : Job → Result Shape Refusal → A) → by job c ≡ by (job_of s) (job_of s).answer
    known by = sym (ap (by job) told) ∙ ap (λ (j : Job). by j j.answer) is

    pub answer_known : (room : ℕ) → answer_by job room c ≡ plan_answer (job_of s) room
    unfolding plan_answer
    answer_known room = known (λ j. answer_by j room)

    pub memory_known : (xs : List ℕ) → memory_by job xs c ≡ plan_memory (job_of s) xs
    unfolding plan_memory
    memory_known xs = known (λ j. memory_by j xs)

    pub traffic_known : traffic_by job c ≡ traffic_of (job_of s)
    unfolding traffic_of
    traffic_known = known traffic_by

    pub turn_known : turn_by job c ≡ turn_of (job_of s)
    unfolding turn_of
    turn_known = known turn_by

  -- what an accepted job lends
  pub lent : (shape : Shape) → job.answer ≡ Ok shape → Lent (number_of shape.kind) shape.n job.loads job.surpluses job.costs
  lent shape told =
      let e : (job_of s).answer ≡ Ok shape = ap (λ (j : Job). j.answer) (sym is) ∙ told in
      let long = arrays s shape e in
      let ok = job_accepted s shape e in
      subst (λ (j : Job). Lent (number_of shape.kind) shape.n j.loads j.surpluses j.costs) (sym is)
      (record { accepted = ok; loads_long = omega (arith, ok.boards); surpluses_long = omega (arith, ok.boards); costs_long = omega (arith, ok.boards); after_is = after_is s shape e })

-- a plan's numbers are given of a ring that was read
pub record Planned_of (job : Job) : Type 0 where
  pub shape : Shape
  pub read : job.answer ≡ Ok shape

pub planned_of : (job : Job) (room : ℕ) {p : Planned} → plan_answer job room ≡ Ok p → Planned_of job
unfolding plan_answer
planned_of job room {p} e = go job.answer refl e
  where
    go : (c : Result Shape Refusal) → job.answer ≡ c → answer_by job room c ≡ Ok p → Planned_of job
    go (Ok shape) is q = record { shape = shape; read = is }
    go (Err refusal) is q = absurd (not_ok q)
