-- `weigh`: a refused job stops here, a ring's plan is weighed by `weigh_ring`. Assumes nothing.
use Rattle.std.proofs.Common.{ap, ◌∙◌}
use Rattle.ring.specs.Boards.{Ring}
use Rattle.planner.specs.Answer.{answer_for}
use Rattle.std.proofs.lemmas.Result.{err_from_is_err_and}
use Rattle.planner.proofs.Reading.{answer_known, lent}
use Rattle.planner.proofs.weigh.Goals as goal

pub returns-in_err-shape : goal.returns-in_err-shape
returns-in_err-shape c =
    let p = err_from_is_err_and c.from_residual.result c.from_residual.ensures.1 in
    rw (p.1, p.2) (answer_known c.args.s.now c.read-job.result c.read-job.ensures _ c.in_err-shape.was c.args.room)

pub new-requires : goal.new-requires
new-requires c = lent c.args.s.now c.read-job.result c.read-job.ensures c.in_ok-shape.shape c.in_ok-shape.was

pub returns : goal.returns
returns c =
    c.weigh_ring.ensures ∙ ap (λ (r : Ring). answer_for r c.args.room) c.new.ensures ∙ answer_known c.args.s.now c.read-job.result c.read-job.ensures _ c.in_ok-shape.was c.args.room
