-- Document 01, "Bytes": the bytes of a ring's plan, their places, and what is read from them.
use Rattle.std.specs.Prelude.{List, ℕ, ◌+◌, ◌*◌, get_or}
use Rattle.ring.specs.Lists.{up_to}
use Rattle.ring.specs.Boards.{Ring}
use Rattle.ring.specs.Schedule.{Send}
use Rattle.ring.specs.Plan.{offset, moves}
use Rattle.ring.specs.Bytes.{word_at, plan_bytes_by}

-- the place of record k, from 0
abbrev pub record_place : ℕ → ℕ
record_place k = 15 + 6 * k

module _ (r : Ring) where
  -- the plan's bytes
  abbrev pub plan_bytes : List ℕ
  plan_bytes = plan_bytes_by r (offset r)

  -- how many they are: up to the place after the last record
  abbrev pub plan_length : ℕ
  plan_length = record_place (moves r (offset r))

-- the finish that a plan's bytes say
abbrev pub finish_in : List ℕ → ℕ
finish_in s = word_at s 7

-- the moves that a plan's bytes say
abbrev pub moves_in : List ℕ → ℕ
moves_in s = word_at s 11

-- the send that the record at a place says
abbrev pub record_at : List ℕ → ℕ → Send
record_at s at = record { link = get_or s at 0; direction = get_or s (at + 1) 0; start = word_at s (at + 2) }

-- the sends that the first k records say
abbrev pub records_in : List ℕ → ℕ → List Send
records_in s k = up_to (λ j. record_at s (record_place j)) k

-- the sends that a plan's bytes say: as many records as its moves
abbrev pub plan_in : List ℕ → List Send
plan_in s = records_in s (moves_in s)
