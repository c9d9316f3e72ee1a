-- A code says what it should: 0 is success and nothing else, and any other gives back its number and its board. Assumes nothing.
use mathlib.Core.Path.{◌≡◌, refl}
use mathlib.Core.List.{List}
use mathlib.Core.Logic.{inl, inr}
use Prim.Native.Nat.{ℕ, ◌≤◌, ◌/◌, ◌%◌}
use native.Mathlib.Omega.{arith}
use lib.IntN.{ℤ}
use lib.ListN.{length, get_or}
use Rattle.ring.specs.Boards.{Within}
use Rattle.hop.specs.Answers.{Answer, success, refusal, Gives, of_check, of_written, ReaderGives, WriterGives}
use Rattle.hop.specs.Read.{check_of, job_of}
use Rattle.hop.specs.Write.{written_of}
use Rattle.hop.proofs.Given.{reader_gives, writer_gives}
use Rattle.planner.specs.Answer.{of_planned, PlannerGives, plan_answer}
use Rattle.planner.proofs.Given.{planner_gives}
use Rattle.lists.specs.Listed.{ListGives, list_answer}
use Rattle.lists.proofs.Given.{list_gives}
use Rattle.loads.specs.Query.{boards_of, query_answer}
use Rattle.columns.specs.Call.{columns_in, columns_answer}
use Rattle.capi.specs.Convention.{code_of}

-- a code that says what it should: success is 0; a refusal is not, and its number and board are got back from its code
abbrev pub Clear : Answer → Type 0
Clear (success values) = code_of (success values) ≡ 0
Clear (refusal number board) = (1 ≤ code_of (refusal number board)) × (code_of (refusal number board) % 256 ≡ number) × (code_of (refusal number board) / 256 ≡ board)

-- it does, where every number that is given is 1 to 255
clear : (numbers : ℕ → Type 0) (n : ℕ) → ((number : ℕ) → numbers number → Within 1 255 number) → (a : Answer) → Gives numbers n a → Clear a
clear numbers n few (success values) g = refl
clear numbers n few (refusal number board) g = let w = few number g.0 in (omega arith, omega arith, omega arith)

pub check_clear : (s : List ℕ) → Clear (of_check (check_of s))
check_clear s = clear ReaderGives (get_or s 6 0) (λ number h. omega arith) (of_check (check_of s)) (reader_gives s)

pub write_clear : (kind : ℕ) (loads : List ℕ) (surpluses : List ℤ) (costs : List ℕ) (room : ℕ) → Clear (of_written (written_of kind loads surpluses costs room))
write_clear kind loads surpluses costs room =
    clear WriterGives (length loads) (λ number h. elim h [ inl w ↦ omega arith | inr e ↦ omega arith ]) (of_written (written_of kind loads surpluses costs room))
    (writer_gives kind loads surpluses costs room)

pub plan_clear : (s : List ℕ) (room : ℕ) → Clear (of_planned (plan_answer (job_of s) room))
plan_clear s room = clear PlannerGives (get_or s 6 0) (λ number h. omega arith) (of_planned (plan_answer (job_of s) room)) (planner_gives s room)

-- of a call that fills a list and has a refusal number of its own
list_clear : (own : ℕ) → Within 1 255 own → (Within 7 10 own → ⊥) → (s : List ℕ) (needed room places : ℕ) → Clear (of_planned (list_answer own needed (job_of s) room places))
list_clear own one other s needed room places =
    clear (ListGives own) (get_or s 6 0) (λ number h. elim h [ inl w ↦ omega arith | inr e ↦ omega arith ]) (of_planned (list_answer own needed (job_of s) room places))
    (list_gives own other s needed room places)

pub query_clear : (s : List ℕ) (room places : ℕ) → Clear (of_planned (query_answer (job_of s) room places))
query_clear s = list_clear 14 (omega arith) (λ h. omega arith) s (boards_of (job_of s).answer)

pub columns_clear : (s : List ℕ) (room places : ℕ) → Clear (of_planned (columns_answer (job_of s) room places))
columns_clear s = list_clear 16 (omega arith) (λ h. omega arith) s (columns_in (job_of s) (job_of s).answer)
