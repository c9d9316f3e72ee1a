-- Document 01, "Refusal numbers": what each answer of this crate says in that table's numbers, and which of them a function may give.
use Rattle.std.specs.Prelude.{◌≡◌, List, [], ◌∷◌, ◌++◌, ◌⊎◌, ℕ, ◌<◌, Result, Ok, Err, codes}
use Rattle.std.specs.Fmt.{decimal}
use Rattle.ring.specs.Boards.{Within}
use Rattle.ring.specs.Limits as limits
use Rattle.hop.specs.declared.Shape.{Shape}
use Rattle.hop.specs.declared.refusals.Refusal.{Refusal}
use Rattle.hop.specs.declared.refusals.Refusal.TheVariants.{TooShort, NoJob, NoVersion, NoKind, BoardCount, WrongLength, BadBoard, UnlikeCost, Unbalanced, TooLate, NoRoom, ShortList}
use Rattle.hop.specs.Kinds.{number_of}

-- the number of each refusal; 14 and 16 are given by the calls that fill a list
abbrev pub number_by : Refusal → ℕ
number_by TooShort = 1
number_by NoJob = 2
number_by NoVersion = 3
number_by NoKind = 4
number_by BoardCount = 5
number_by WrongLength = 6
number_by (BadBoard fault board) = limits.number_of fault
number_by (UnlikeCost board) = 10
number_by Unbalanced = 11
number_by TooLate = 12
number_by NoRoom = 13
number_by (ShortList number board) = number

-- the board that it names, and 0 where it names none
abbrev pub board_by : Refusal → ℕ
board_by (BadBoard fault board) = board
board_by (UnlikeCost board) = board
board_by (ShortList number board) = board
board_by TooShort = 0
board_by NoJob = 0
board_by NoVersion = 0
board_by NoKind = 0
board_by BoardCount = 0
board_by WrongLength = 0
board_by Unbalanced = 0
board_by TooLate = 0
board_by NoRoom = 0

-- as it is printed: "refused N board B"
abbrev pub refused_text : Refusal → List ℕ
refused_text r = codes "refused " ++ decimal (number_by r) ++ codes " board " ++ decimal (board_by r)

-- what an answer says: the values that success returns, or the refusal's number and board
pub data Answer : Type 0 where
  success : List ℕ → Answer
  refusal : ℕ → ℕ → Answer

-- the refusal's number, and 0 of success
abbrev pub number_in : Answer → ℕ
number_in (success values) = 0
number_in (refusal number board) = number

-- the refusal's board, and 0 of success
abbrev pub board_in : Answer → ℕ
board_in (success values) = 0
board_in (refusal number board) = board

-- of a result: the values of a success, or the refusal
abbrev pub of_answer : {A : Type 0} → (A → List ℕ) → Result A Refusal → Answer
of_answer values (Ok a) = success (values a)
of_answer values (Err r) = refusal (number_by r) (board_by r)

-- of the reader's check: the kind and n, which stand beside the job's numbers
abbrev pub of_check : Result Shape Refusal → Answer
of_check = of_answer (λ ring. number_of ring.kind ∷ ring.n ∷ [])

-- of the job writer: the length written
abbrev pub of_written : Result ℕ Refusal → Answer
of_written = of_answer (λ length. length ∷ [])

-- refusals 7 to 10 name one of the ring's n boards; the others name none, and their board is 0
abbrev pub Placed : ℕ → ℕ → ℕ → Type 0
Placed n number board = (Within 7 10 number × (board < n)) ⊎ ((Within 7 10 number → ⊥) × (board ≡ 0))

-- success, or a refusal with one of these numbers and its board
abbrev pub Gives : (ℕ → Type 0) → ℕ → Answer → Type 0
Gives numbers n (success values) = Unit {0}
Gives numbers n (refusal number board) = numbers number × Placed n number board

-- the reader's numbers, 1 to 11
abbrev pub ReaderGives : ℕ → Type 0
ReaderGives number = Within 1 11 number

-- the job writer's, 4 to 11 and 13
abbrev pub WriterGives : ℕ → Type 0
WriterGives number = Within 4 11 number ⊎ (number ≡ 13)
