-- Document 01, "Bytes": the bytes of a job, and what the job writer answers and leaves in the buffer.
use Rattle.std.specs.Prelude.{List, [], ◌∷◌, ◌++◌, ℕ, ltb, ℤ, length, drop, Result, Ok, Err}
use Rattle.std.specs.Int.{w16}
use Rattle.std.proofs.Common.{of_z}
use Rattle.ring.specs.Numbers.{pick}
use Rattle.ring.specs.Lists.{each, each_ℤ, joined}
use Rattle.ring.specs.Bytes.{half_bytes}
use Rattle.hop.specs.declared.Shape.{Shape}
use Rattle.hop.specs.declared.refusals.Refusal.{Refusal}
use Rattle.hop.specs.declared.refusals.Refusal.TheVariants.{WrongLength, NoRoom}
use Rattle.hop.specs.Refusals.{unlike, goes_on, shape_of, ring_check}
use Rattle.hop.specs.Read.{job_length}

-- mark "HOP", version 1, kind, n
abbrev pub head_bytes : ℕ → ℕ → List ℕ
head_bytes kind n = 72 ∷ 79 ∷ 80 ∷ 0 ∷ 1 ∷ kind ∷ n ∷ []

-- a board's record: its load, its surplus in two's complement, its link's cost
abbrev pub record_bytes : ℕ → ℤ → ℕ → List ℕ
record_bytes load surplus cost = half_bytes load ++ half_bytes (of_z w16 surplus) ++ half_bytes cost

-- the record of board i
abbrev pub board_bytes : (ℕ → ℕ) → (ℕ → ℤ) → (ℕ → ℕ) → ℕ → List ℕ
board_bytes load surplus cost i = record_bytes (load i) (surplus i) (cost i)

-- the bytes of a job
unfoldable pub job_bytes : ℕ → ℕ → (ℕ → ℕ) → (ℕ → ℤ) → (ℕ → ℕ) → List ℕ
job_bytes kind n load surplus cost = head_bytes kind n ++ joined (board_bytes load surplus cost) n

-- 4; 5 for the first list's length; 6 where another's differs; 7 to 11; or the ring
abbrev pub lists_of : ℕ → List ℕ → List ℤ → List ℕ → Result Shape Refusal
lists_of kind loads surpluses costs =
    goes_on (shape_of kind (length loads))
    (λ ring. unlike (length surpluses) ring.n (Err WrongLength)
    (unlike (length costs) ring.n (Err WrongLength) (ring_check ring (each loads) (each_ℤ surpluses) (each costs))))

-- then 13 where the buffer has too little room; or the length written
abbrev pub room_of : ℕ → Result Shape Refusal → Result ℕ Refusal
room_of room (Ok ring) = pick (ltb room (job_length ring.n)) (Err NoRoom) (Ok (job_length ring.n))
room_of room (Err r) = Err r

-- the writer's answer, with a buffer of this length
unfoldable pub written_of : ℕ → List ℕ → List ℤ → List ℕ → ℕ → Result ℕ Refusal
written_of kind loads surpluses costs room = room_of room (lists_of kind loads surpluses costs)

-- a buffer with these bytes at its front, or as it was where nothing is written
abbrev pub buffer_by : Result ℕ Refusal → List ℕ → List ℕ → List ℕ
buffer_by (Ok n) bytes buf = bytes ++ drop n buf
buffer_by (Err r) bytes buf = buf

-- the buffer that the writer leaves
unfoldable pub buffer_of : ℕ → List ℕ → List ℤ → List ℕ → List ℕ → List ℕ
buffer_of kind loads surpluses costs buf =
    buffer_by (written_of kind loads surpluses costs (length buf)) (job_bytes kind (length loads) (each loads) (each_ℤ surpluses) (each costs)) buf
