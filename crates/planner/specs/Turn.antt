-- Document 02, order 1: how many columns the boards of a job have in all, and the one that board 0 begins with after the plan.
use Rattle.std.specs.Prelude.{Result, Ok, Err}
use Rattle.ring.specs.Boards.{Ring}
use Rattle.ring.specs.Plan.{offset}
use Rattle.ring.specs.Columns.{N, begins}
use Rattle.hop.specs.declared.Shape.{Shape}
use Rattle.hop.specs.declared.refusals.Refusal.{Refusal}
use Rattle.hop.specs.declared.Job.{Job}
use Rattle.planner.specs.declared.Turn.{Turn}
use Rattle.planner.specs.Answer.{ring_for}

-- those of a ring
abbrev pub turn_in : Ring → Turn
turn_in r = record { columns = N r; first = begins r (offset r) 0 }

-- those for a job with this check: its ring's, or zeros where it is refused
abbrev pub turn_by : Job → Result Shape Refusal → Turn
turn_by job (Ok shape) = turn_in (ring_for job shape)
turn_by job (Err refusal) = record { columns = 0; first = 0 }

-- those of a job
unfoldable pub turn_of : Job → Turn
turn_of job = turn_by job job.answer
