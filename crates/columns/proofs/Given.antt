-- Which refusal numbers the columns call gives, and with which board. Assumes nothing.
use mathlib.Core.List.{List}
use Prim.Native.Nat.{ℕ}
use native.Mathlib.Omega.{arith}
use lib.ListN.{get_or}
use Rattle.hop.specs.Answers.{Gives}
use Rattle.hop.specs.Read.{job_of}
use Rattle.planner.specs.Answer.{of_planned}
use Rattle.lists.proofs.Given.{list_gives}
use Rattle.columns.specs.Call.{ColumnsGives, columns_in, columns_answer}

-- the planner's numbers, and 16 with board 0
pub columns_gives : (s : List ℕ) (room places : ℕ) → Gives ColumnsGives (get_or s 6 0) (of_planned (columns_answer (job_of s) room places))
columns_gives s = list_gives 16 (λ h. omega arith) s (columns_in (job_of s) (job_of s).answer)
