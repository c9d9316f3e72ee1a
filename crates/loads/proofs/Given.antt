-- Which refusal numbers the query gives, and with which board. Assumes nothing.
use mathlib.Core.List.{List}
use Prim.Native.Nat.{ℕ}
use native.Mathlib.Omega.{arith}
use lib.ListN.{get_or}
use Rattle.hop.specs.Answers.{Gives}
use Rattle.hop.specs.Read.{job_of}
use Rattle.planner.specs.Answer.{of_planned}
use Rattle.lists.proofs.Given.{list_gives}
use Rattle.loads.specs.Query.{QueryGives, boards_of, query_answer}

-- "The reader gives 1 to 11, the planner also 12 and 13, the loads query also 14."
pub query_gives : (s : List ℕ) (room places : ℕ) → Gives QueryGives (get_or s 6 0) (of_planned (query_answer (job_of s) room places))
query_gives s = list_gives 14 (λ h. omega arith) s (boards_of (job_of s).answer)
