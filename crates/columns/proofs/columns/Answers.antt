-- `columns::columns` meets its contract: what `plan_for` answers and writes is the call's, and the columns laid are the played lists. Assumes nothing.
use Rattle.std.proofs.Common.{◌≡◌, Ok, Err, length, ◌∙◌, arith, rules}
use Rattle.hop.specs.declared.Job.{Job}
use Rattle.hop.specs.Read.{job_of}
use Rattle.lists.proofs.Listing.{Let, let_through, refused_list}
use Rattle.columns.specs.Call.{columns_in, columns_answer, columns_by}
use Rattle.columns.proofs.Turned.{columns_run, Turned, turned}
use Rattle.columns.proofs.columns.Goals as goal
use Rattle.columns.proofs.columns.Goals.{In_ok-planned}

-- a plan was answered
module _ (c : In_ok-planned) where
  abbrev job : Job
  job = job_of c.args.s.now

  answer : columns_answer job (length c.args.buf.now) (length c.args.list.now) ≡ Ok c.in_ok-planned.planned
  answer = let run = columns_run job c.turn_of-turn.ensures in search rules

  allowed : Let 16 (columns_in job job.answer) job (columns_by job job.answer) c.args.buf.now c.args.list.now c.in_ok-planned.planned
  allowed = let_through 16 _ job _ c.args.buf.now c.args.list.now answer

  laid : Turned job c.turn_of-turn.result
  laid = turned c.args.s.now (length c.args.buf.now) allowed.given c.turn_of-turn.ensures

pub returns-in_err-planned-clause-list_after : goal.returns-in_err-planned-clause-list_after
returns-in_err-planned-clause-list_after c =
    let job = job_of c.args.s.now in
    let run = columns_run job c.turn_of-turn.ensures in
    let e : columns_answer job (length c.args.buf.now) (length c.args.list.now) ≡ Err c.in_err-planned.field-0.0 = search rules in
    refused_list 16 (columns_in job job.answer) job (columns_by job job.answer) (length c.args.buf.now) c.args.list.now e

pub lay-requires : goal.lay-requires
lay-requires c = let w = (goal.at.lay-requires c).In_ok-planned in ((laid w).below, omega (arith, columns_run (job w) c.turn_of-turn.ensures, (allowed w).enough))

pub returns-clause-list_after : goal.returns-clause-list_after
returns-clause-list_after c =
    let w = (goal.at.returns-clause-list_after c).In_ok-planned in
    c.lay.ensures ∙ (laid w).laid c.args.list.now ∙ (allowed w).fills
