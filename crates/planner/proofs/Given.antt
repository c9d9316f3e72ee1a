-- Which refusal numbers the planner gives, and with which board. Assumes nothing.
use Rattle.std.proofs.Common.{◌≡◌, refl, sym, subst, List, ℕ, ltb, get_or, Result, Ok, Err, arith}
use borrow.Author.Tests.{le-ltb}
use Rattle.ring.specs.Plan.{offset, finish_of, moves, tight}
use Rattle.ring.proofs.Demand3.{finish_fits}
use Rattle.hop.specs.declared.Shape.{Shape}
use Rattle.hop.specs.declared.refusals.Refusal.{Refusal}
use Rattle.hop.specs.declared.refusals.Refusal.TheVariants.{TooLate, NoRoom}
use Rattle.hop.specs.Answers.{Gives, number_in, of_check, ReaderGives}
use Rattle.hop.specs.Read.{job_of}
use Rattle.hop.proofs.Accepted.{job_answer, job_accepted}
use Rattle.hop.proofs.Given.{picked, no_board, reader_gives}
use Rattle.planner.specs.declared.Planned.{Planned}
use Rattle.planner.specs.PlanBytes.{plan_length}
use Rattle.planner.specs.Answer.{of_planned, PlannerGives, ring_for, answer_by, plan_answer}

module _ (s : List ℕ) (room : ℕ) where
  read_gives : Gives ReaderGives (get_or s 6 0) (of_check (job_of s).answer)
  read_gives = subst (λ (c : Result Shape Refusal). Gives ReaderGives (get_or s 6 0) (of_check c)) (sym (job_answer s)) (reader_gives s)

  -- "The reader gives 1 to 11, the planner also 12 and 13"
  pub planner_gives : Gives PlannerGives (get_or s 6 0) (of_planned (plan_answer (job_of s) room))
  unfolding plan_answer
  planner_gives = go (job_of s).answer read_gives
    where
      P : Result Planned Refusal → Type 0
      P p = Gives PlannerGives (get_or s 6 0) (of_planned p)

      go : (c : Result Shape Refusal) → Gives ReaderGives (get_or s 6 0) (of_check c) → P (answer_by (job_of s) room c)
      go (Ok shape) p =
          let r = ring_for (job_of s) shape in
          picked P (ltb 4294967295 (finish_of r (offset r))) {a = Err TooLate} (omega arith, no_board _ 12 (λ h. omega arith))
          (picked P (ltb room (plan_length r)) {a = Err NoRoom} {b = Ok (record { finish = finish_of r (offset r); moves = moves r (offset r); tight = tight r (offset r) })}
          (omega arith, no_board _ 13 (λ h. omega arith)) tt)
      go (Err refusal) p = (omega arith, p.1)

  -- 12 stands in the table, and no ring within the limits is given it
  pub never_twelve : number_in (of_planned (plan_answer (job_of s) room)) ≡ 12 → ⊥
  unfolding plan_answer
  never_twelve = go (job_of s).answer refl read_gives
    where
      go : (c : Result Shape Refusal) → (job_of s).answer ≡ c → Gives ReaderGives (get_or s 6 0) (of_check c) → number_in (of_planned (answer_by (job_of s) room c)) ≡ 12 → ⊥
      go (Ok shape) e p q =
          let r = ring_for (job_of s) shape in
          let soon = finish_fits r (job_accepted s shape e) in
          let t = le-ltb 4294967295 (finish_of r (offset r)) (omega arith) in
          picked (λ (x : Result Planned Refusal). number_in (of_planned x) ≡ 12 → ⊥) (ltb room (plan_length r)) {a = Err NoRoom} {b = Ok (record { finish = finish_of r (offset r); moves = moves r (offset r); tight = tight r (offset r) })}
          (λ z. omega arith) (λ z. omega arith) (rw t at q)
      go (Err refusal) e p q = omega arith
