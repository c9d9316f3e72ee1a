-- `plan`: a refused job stops here; a ring's job is put together, and its plan is written by `plan_ring`. Assumes nothing.
use Rattle.std.proofs.Common.{◌≡◌, refl, sym, ap, ◌∙◌, length, Ok}
use Rattle.std.proofs.lemmas.Result.{err_from_is_err_and}
use Rattle.ring.specs.Boards.{Ring}
use Rattle.hop.specs.declared.Job.{Job}
use Rattle.hop.specs.Read.{bare, job_of}
use Rattle.hop.proofs.Filling.{read_is, refused}
use Rattle.planner.specs.Answer.{answer_for, memory_for}
use Rattle.planner.proofs.Reading.{answer_known, memory_known, lent}
use Rattle.planner.proofs.plan.Goals as goal
use Rattle.planner.proofs.plan.Goals.{After-numbers_into}

pub returns-in_err-shape : goal.returns-in_err-shape
returns-in_err-shape c =
    let a = c.args in
    let p = err_from_is_err_and c.from_residual.result c.from_residual.ensures.1 in
    let was = c.in_err-shape.was in
    let is = refused a.s.now c.checked.ensures was in
    rw (p.1, p.2) (record {
      value = answer_known a.s.now (bare c.checked.result) is _ was (length a.buf.now);
      buf_after = memory_known a.s.now (bare c.checked.result) is _ was a.buf.now;
    })

-- the job that was put together is the one that the bytes say
job_is : (c : After-numbers_into) → c.numbers_into.new.job ≡ job_of c.args.s.now
job_is c = c.numbers_into.ensures ∙ read_is c.args.s.now (sym c.in_ok-shape.was ∙ c.checked.ensures) refl

told : (c : After-numbers_into) → c.numbers_into.new.job.answer ≡ Ok c.in_ok-shape.shape
told c = ap (λ (j : Job). j.answer) c.numbers_into.ensures

pub new-requires : goal.new-requires
new-requires c = let e = (goal.at.new-requires c).After-numbers_into in lent c.args.s.now c.numbers_into.new.job (job_is e) c.in_ok-shape.shape (told e)

pub returns : goal.returns
returns c =
    let a = c.args in
    let e = (goal.at.returns c).After-numbers_into in
    let job = c.numbers_into.new.job in
    let held = c.new.ensures in
    let q = c.plan_ring.ensures in
    let value = q.value ∙ ap (λ (r : Ring). answer_for r (length a.buf.now)) held in
    record {
      value = value ∙ answer_known a.s.now job (job_is e) _ (told e) (length a.buf.now);
      buf_after = q.buf_after ∙ (λ t. memory_for (held t) (value t) a.buf.now) ∙ memory_known a.s.now job (job_is e) _ (told e) a.buf.now;
    }
