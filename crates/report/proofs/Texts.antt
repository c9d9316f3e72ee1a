-- The three ends of the report: a job that is refused, a plan that is refused, and a plan. Assumes nothing.
use mathlib.Core.Path.{◌≡◌, sym, ap, ◌∙◌}
use mathlib.Core.List.{◌++◌}
use Prim.Native.Nat.{ℕ, ◌≤◌}
use native.Mathlib.Omega.{arith}
use lib.ListN.{get_or, replicate}
use Rattle.std.proofs.Common.{Ok, Err}
use Rattle.ring.specs.Lists.{each}
use Rattle.ring.specs.Schedule.{sender, receiver}
use Rattle.ring.proofs.Fill.{fill_at}
use Rattle.ring.proofs.Joined.{joined_same}
use Rattle.hop.specs.declared.Shape.{Shape}
use Rattle.hop.specs.declared.Job.{Job}
use Rattle.hop.specs.declared.refusals.Refusal.{Refusal}
use Rattle.planner.specs.declared.Planned.{Planned}
use Rattle.planner.specs.declared.Traffic.{Traffic}
use Rattle.planner.specs.Answer.{ring_for, plan_answer}
use Rattle.planner.specs.Traffic.{sends_by, traffic_by, traffic_of}
use Rattle.report.specs.Text.{first_line, board_line, board_lines}
use Rattle.report.specs.Report.{refused_text, text_by, report_of}

module _ (job : Job) (room : ℕ) where
  pub text_unread : (r : Refusal) → job.answer ≡ Err r → refused_text r ≡ report_of job room
  unfolding report_of
  text_unread r e = λ t. text_by job (sym e t) (plan_answer job room)

  module _ (shape : Shape) (e : job.answer ≡ Ok shape) where
    pub text_refused : (r : Refusal) → plan_answer job room ≡ Err r → refused_text r ≡ report_of job room
    unfolding report_of
    text_refused r q = λ t. text_by job (sym e t) (sym q t)

    traffic_is : traffic_of job ≡ traffic_by job (Ok shape)
    unfolding traffic_of
    traffic_is = ap (traffic_by job) e

    pub text_planned : (t : Traffic) (p : Planned) → shape.n ≤ 128 → plan_answer job room ≡ Ok p → t ≡ traffic_of job
        → first_line p.finish p.moves p.tight ++ board_lines (each t.sends) (each t.receives) shape.n ≡ report_of job room
    unfolding report_of
    text_planned t p h q is =
        let r = ring_for job shape in
        let same : board_lines (each t.sends) (each t.receives) shape.n ≡ board_lines (sends_by r (sender r)) (sends_by r (receiver r)) shape.n =
        joined_same _ _ shape.n (λ b x.
        let sent = ap (λ (y : Traffic). get_or y.sends b 0) (is ∙ traffic_is) ∙ fill_at (sends_by r (sender r)) (replicate 128 0) 0 shape.n b x (omega arith) in
        let got = ap (λ (y : Traffic). get_or y.receives b 0) (is ∙ traffic_is) ∙ fill_at (sends_by r (receiver r)) (replicate 128 0) 0 shape.n b x (omega arith) in
        λ i. board_line b (sent i) (got i))
        in
        (λ i. first_line p.finish p.moves p.tight ++ same i) ∙ (λ i. text_by job (sym e i) (sym q i))
