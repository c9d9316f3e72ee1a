-- `plan_ring`: the head and the links' records, where the numbers pass, are the plan's bytes. Assumes nothing.
use Rattle.std.proofs.Common.{length, sym, ◌∙◌}
use Rattle.planner.specs.Held.{ring_held}
use Rattle.planner.proofs.Answers.{Through, through, laid_out, answer_is}
use Rattle.planner.proofs.plan_ring.Goals as goal
use Rattle.planner.proofs.plan_ring.Goals.{In_ok-planned}

-- the numbers pass
passes : (c : In_ok-planned) →
    Through (ring_held c.args.ring.now) c.in_ok-planned.planned.finish c.in_ok-planned.planned.moves (length c.args.buf.now)
passes c =
    let a = c.args in
    let r = ring_held a.ring.now in
    through r (length a.buf.now) c.in_ok-planned.planned
    (sym (c.weighed.ensures ∙ answer_is r c.outline_of-o.result c.outline_of-o.ensures (length a.buf.now)) ∙ c.in_ok-planned.was)

pub returns-clause-buf_after : goal.returns-clause-buf_after
returns-clause-buf_after c = laid_out (passes (goal.at.returns-clause-buf_after c).In_ok-planned) c.args.buf.now c.put_head.new.buf c.put_links.new.buf c.put_head.ensures c.put_links.ensures
