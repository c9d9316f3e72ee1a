-- Inner: cited by the contracts of the query's inner functions only. What the query promises is in Query.
-- What each board has received and sent by a tick, of a list of sends.
use Rattle.std.specs.Prelude.{◌≡◌, List, [], ℕ, ◌+◌, ◌-◌, ◌≤◌, ◌<◌, slice_index_or}
use Rattle.ring.specs.Lists.{each}
use Rattle.ring.specs.Boards.{Ring, ring_in}
use Rattle.ring.specs.Schedule.{Send, received_by, sent_before}
use Rattle.loads.specs.declared.Count.{Count}
use Rattle.loads.specs.declared.Record.{Record}

-- the send that a record says
abbrev pub send_of : Record → Send
send_of r = record { link = r.link; direction = r.direction; start = r.start }

-- n boards and the costs of their links: no receipt and no send depends on more of a ring
abbrev pub links_in : ℕ → List ℕ → Ring
links_in n costs = ring_in 0 n [] [] costs

-- nothing received and nothing sent
abbrev pub nothing : Count
nothing = record { received = 0; sent = 0 }

-- each of the ring's boards has the count of its receipts that ended at or before the tick, and of its sends that started before it
pub record Counted (r : Ring) (σ : List Send) (tick : ℕ) (counts : List Count) : Type 0 where
  pub received : (i : ℕ) → i < r.n → (slice_index_or counts i nothing).received ≡ received_by r σ i tick
  pub sent : (i : ℕ) → i < r.n → (slice_index_or counts i nothing).sent ≡ sent_before r σ i tick

-- what board i is left with: its load, and what it received, less what it sent
abbrev pub left_with : List ℕ → List Count → ℕ → ℕ
left_with loads counts i = let c = slice_index_or counts i nothing in each loads i + c.received - c.sent

-- of n boards, none has more than 32 bits hold, and none has sent more than it had and received
pub record Covered (n : ℕ) (loads : List ℕ) (counts : List Count) : Type 0 where
  pub small : (i : ℕ) → i < n → each loads i + (slice_index_or counts i nothing).received < 4294967296
  pub enough : (i : ℕ) → i < n → (slice_index_or counts i nothing).sent ≤ each loads i + (slice_index_or counts i nothing).received
