-- `report`: each end writes the text of the answer that led to it. Assumes nothing.
use Rattle.std.proofs.Common.{◌≡◌, ◌≤◌, length, length-append, sym, ap, ◌∙◌, refl, arith, Ok}
use Rattle.hop.specs.declared.Job.{Job}
use Rattle.hop.specs.Read.{job_of}
use Rattle.hop.proofs.Accepted.{header}
use Rattle.report.specs.Report.{report_of}
use Rattle.report.specs.Writing.{Writes}
use Rattle.report.proofs.Decimal.{decimal_short}
use Rattle.report.proofs.Writing.{then, said, at_front, first_short}
use Rattle.report.proofs.Texts.{text_unread, text_refused, text_planned}
use Rattle.report.proofs.report.Goals as goal
use Rattle.report.proofs.report.Goals.{In-Ok-Ok, in-Ok-Ok, in-Err-default, in_default-Err}

pub first-requires : goal.first-requires
first-requires c = simp length-append (omega (arith, decimal_short, c.fits-text))

-- the job was read as a ring
is_ring : (c : In-Ok-Ok) → (job_of c.args.s.now).answer ≡ Ok c.in-Ok-Ok.shape
is_ring c = sym (ap (λ (j : Job). j.answer) c.read.ensures) ∙ c.in-Ok-Ok.is-0

-- its boards are 128 at most
few : (c : In-Ok-Ok) → c.in-Ok-Ok.shape.n ≤ 128
few c = (header c.args.s.now _ (is_ring c)).boards.1

pub boards-requires-clause-boards : goal.boards-requires-clause-boards
boards-requires-clause-boards c = few (goal.at.boards-requires-clause-boards c).In-Ok-Ok

pub boards-requires-clause-fits : goal.boards-requires-clause-fits
boards-requires-clause-fits c =
    let n = few (goal.at.boards-requires-clause-fits c).In-Ok-Ok in
    let p = c.in-Ok-Ok.planned in
    omega (arith, c.fits-text, first_short p.finish p.moves p.tight)

pub refusal-requires : goal.refusal-requires
refusal-requires c = simp length-append (omega (arith, decimal_short, c.fits-text))

pub refusal-requires-in-Err-default : goal.refusal-requires-in-Err-default
refusal-requires-in-Err-default c = simp length-append (omega (arith, decimal_short, c.fits-text))

pub returns : goal.returns
returns c =
    let a = c.args in
    let answer = sym (ap (λ (j : Job). j.answer) c.read.ensures) in
    let plan = c.plan-planned.ensures in
    let job = job_of a.s.now in
    let room = length a.plan.now in
    let told : Writes (report_of job room) _ c.match-read.out = elim c.match-read.branch [
      | in-Ok-Ok w ↦
          let ring = answer ∙ w.in-Ok-Ok.is-0 in
          let few = (header a.s.now _ ring).boards.1 in
          said (text_planned job room _ ring w.traffic_of.result _ few (sym plan.value ∙ w.in-Ok-Ok.is-1) w.traffic_of.ensures)
          (rw (← w.out-is) at (then w.first.ensures w.boards.ensures))
      | in-Err-default w ↦ said (text_unread job room _ (answer ∙ w.in-Err-default.is-0)) (rw (← w.out-is) at w.refusal-in-Err-default.ensures)
      | in_default-Err w ↦
          said (text_refused job room _ (answer ∙ w.in_default-Err.is-0) _ (sym plan.value ∙ w.in_default-Err.is-1)) (rw (← w.out-is) at w.refusal.ensures)
    ] in
    let w = at_front (report_of job room) told refl in
    record { plan_after = plan.buf_after; value = w.0; text_after = w.1 }
