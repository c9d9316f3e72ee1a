-- `loads::loads` meets its contract: what `plan_for` answers and writes is the query's, and the loads are those of its plan. Assumes nothing.
use Rattle.std.proofs.Common.{◌≡◌, ◌≤◌, Ok, Err, length, sym, ◌∙◌, take, arith, rules}
use Rattle.std.proofs.Math.Seq.{length-take-le}
use Rattle.hop.specs.declared.Job.{Job}
use Rattle.hop.specs.Read.{job_of}
use Rattle.lists.proofs.Listing.{Let, let_through, refused_list}
use Rattle.loads.specs.Query.{boards_of, query_answer, query_plan, loads_by}
use Rattle.loads.proofs.Told.{Told, filled, told}
use Rattle.loads.proofs.loads.Goals as goal
use Rattle.loads.proofs.loads.Goals.{In_ok-planned}

pub returns-in_err-planned-clause-list_after : goal.returns-in_err-planned-clause-list_after
returns-in_err-planned-clause-list_after c =
    let job = job_of c.args.s.now in
    let e : query_answer job (length c.args.buf.now) (length c.args.list.now) ≡ Err c.in_err-planned.field-0.0 = search rules in
    refused_list 14 (boards_of job.answer) job (loads_by job job.answer c.args.tick) (length c.args.buf.now) c.args.list.now e

-- a plan was answered
module _ (c : In_ok-planned) where
  abbrev job : Job
  job = job_of c.args.s.now

  are : c.map_or-boards.result ≡ boards_of job.answer
  are = search rules

  answer : query_answer job (length c.args.buf.now) (length c.args.list.now) ≡ Ok c.in_ok-planned.planned
  answer = search rules

  allowed : Let 14 (boards_of job.answer) job (loads_by job job.answer c.args.tick) c.args.buf.now c.args.list.now c.in_ok-planned.planned
  allowed = let_through 14 _ job _ c.args.buf.now c.args.list.now answer

  buffer : c.plan_for.new.buf ≡ query_plan job (length c.args.list.now) c.args.buf.now
  buffer = search rules

  -- so its records are those that the loads are counted from
  counted : Told c.map_or-boards.result c.read-job.result.loads c.read-job.result.costs c.plan_for.new.buf c.in_ok-planned.planned.moves c.args.tick (loads_by job job.answer c.args.tick)
  counted = told c.args.s.now c.args.buf.now c.args.tick allowed.given c.read-job.ensures (buffer ∙ allowed.written) are

  -- and the list has a place for each board
  enough : c.map_or-boards.result ≤ length c.args.list.now
  enough = omega (arith, are, allowed.enough)

  front : length (take c.map_or-boards.result c.args.list.now) ≡ c.map_or-boards.result
  front = length-take-le _ _ enough

pub count_sends-requires-clause-lengths : goal.count_sends-requires-clause-lengths
count_sends-requires-clause-lengths c = let t = counted (goal.at.count_sends-requires-clause-lengths c).In_ok-planned in (t.few, t.placed)

pub count_sends-requires-clause-links_below : goal.count_sends-requires-clause-links_below
count_sends-requires-clause-links_below c = (counted (goal.at.count_sends-requires-clause-links_below c).In_ok-planned).linked

pub slice_bounds-tell-end : goal.slice_bounds-tell-end
slice_bounds-tell-end c = enough (goal.at.slice_bounds-tell-end c).In_ok-planned

pub slice_bounds-tell-end-2 : goal.slice_bounds-tell-end-2
slice_bounds-tell-end-2 c = sym (front (goal.at.slice_bounds-tell-end-2 c).In_ok-planned)

pub tell-requires : goal.tell-requires
tell-requires c =
    let w = (goal.at.tell-requires c).In_ok-planned in
    rw (front w) ((counted w).few, ((counted w).differ c.count_sends.ensures).covered)

pub returns-clause-list_after : goal.returns-clause-list_after
returns-clause-list_after c =
    let w = (goal.at.returns-clause-list_after c).In_ok-planned in
    rw (c.tell.ensures, front w) (filled _ _ c.args.list.now (enough w) ∙ ((counted w).differ c.count_sends.ensures).told c.args.list.now ∙ (allowed w).fills)
