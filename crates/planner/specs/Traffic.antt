-- Document 01, "The program": for each board of a job its sends and receipts, in the plan of the job's ring.
use Rattle.std.specs.Prelude.{List, ℕ, eqb, replicate, Result, Ok, Err}
use Rattle.ring.specs.Lists.{count, fill}
use Rattle.ring.specs.Boards.{Ring}
use Rattle.ring.specs.Schedule.{Send, sender, receiver}
use Rattle.ring.specs.Plan.{offset, plan}
use Rattle.hop.specs.declared.Shape.{Shape}
use Rattle.hop.specs.declared.refusals.Refusal.{Refusal}
use Rattle.hop.specs.declared.Job.{Job}
use Rattle.planner.specs.declared.Traffic.{Traffic}
use Rattle.planner.specs.Answer.{ring_for}

-- a number for each of 128 boards: g i for board i below n, and 0 for the others
abbrev pub for_boards : (ℕ → ℕ) → ℕ → List ℕ
for_boards g n = fill g n (replicate 128 0)

-- how many sends of the plan have board i as `who` of them
abbrev pub sends_by : Ring → (Send → ℕ) → ℕ → ℕ
sends_by r who i = count (λ s. eqb (who s) i) (plan r (offset r))

-- the sends and the receipts of a ring's boards
abbrev pub traffic_in : Ring → Traffic
traffic_in r = record { sends = for_boards (sends_by r (sender r)) r.n; receives = for_boards (sends_by r (receiver r)) r.n }

-- those for a job with this check: its ring's, or none where it is refused
abbrev pub traffic_by : Job → Result Shape Refusal → Traffic
traffic_by job (Ok shape) = traffic_in (ring_for job shape)
traffic_by job (Err refusal) = record { sends = replicate 128 0; receives = replicate 128 0 }

-- those of a job
unfoldable pub traffic_of : Job → Traffic
traffic_of job = traffic_by job job.answer
