-- Document 01, "Bytes": all numbers big-endian, the order of records, and the bytes of a plan.
use Rattle.std.specs.Prelude.{◌≡◌, ◌⊎◌, List, [], ◌∷◌, ◌++◌, ℕ, ◌+◌, ◌*◌, ◌/◌, ◌%◌, ◌<◌, get_or}
use Rattle.ring.specs.Boards.{Ring}
use Rattle.ring.specs.Schedule.{Send}
use Rattle.ring.specs.Plan.{plan, finish_of, moves}

-- the 16 bits at place k
abbrev pub half_at : List ℕ → ℕ → ℕ
half_at s k = get_or s k 0 * 256 + get_or s (k + 1) 0

-- the 32 bits at place k
abbrev pub word_at : List ℕ → ℕ → ℕ
word_at s k = half_at s k * 65536 + half_at s (k + 2)

-- the bytes of a number's low 16 bits
abbrev pub half_bytes : ℕ → List ℕ
half_bytes x = (x / 256 % 256) ∷ (x % 256) ∷ []

-- the bytes of its low 32 bits
abbrev pub word_bytes : ℕ → List ℕ
word_bytes x = half_bytes (x / 65536) ++ half_bytes x

-- plan order: by link upward, then by start upward, then by direction, forward first; no two are alike
abbrev pub InOrder : Send → Send → Type 0
InOrder s t = (s.link < t.link) ⊎ ((s.link ≡ t.link) × ((s.start < t.start) ⊎ ((s.start ≡ t.start) × (s.direction < t.direction))))

-- what stands before the records of a plan: mark "PLN", version 1, kind, n, finish, moves
unfoldable pub plan_head : ℕ → ℕ → ℕ → ℕ → List ℕ
plan_head kind n finish moves = 80 ∷ 76 ∷ 78 ∷ 0 ∷ 1 ∷ kind ∷ n ∷ word_bytes finish ++ word_bytes moves

-- a record: link, direction, start
unfoldable pub send_bytes : Send → List ℕ
send_bytes s = s.link ∷ s.direction ∷ word_bytes s.start

-- the records of a list of sends, one after another
unfoldable pub records_of : List Send → List ℕ
records_of [] = []
records_of (s ∷ σ) = send_bytes s ++ records_of σ

-- the bytes of a ring's plan by the offset o
abbrev pub plan_bytes_by : Ring → ℕ → List ℕ
plan_bytes_by r o = plan_head r.kind r.n (finish_of r o) (moves r o) ++ records_of (plan r o)
