-- Inner: cited by the contracts of the planner's inner functions only. What the planner promises is in Answer, Traffic, Turn and PlanBytes.
-- The records of one link and of all links, in a two-way ring and in a one-way ring. Sends are numbered from 0 here: send x is send x + 1 of
-- document 01.
use Rattle.std.specs.Prelude.{◌≡◌, List, ◌++◌, ◌⊎◌, ℕ, zero, suc, ◌+◌, ◌*◌, ◌-◌, ◌≤◌, ◌<◌, max, eqb, ltb, length, take, drop}
use Rattle.ring.specs.Numbers.{pick, sum}
use Rattle.ring.specs.Lists.{joined}
use Rattle.ring.specs.Boards.{Ring, next}
use Rattle.ring.specs.Plan.{offset, carries, plan}
use Rattle.ring.specs.Bytes.{word_at, send_bytes, records_of}
use Rattle.planner.specs.declared.links.Feed.{Feed}
use Rattle.planner.specs.declared.links.Place.{Place}
use Rattle.planner.specs.declared.records.Direction.{Direction}
use Rattle.planner.specs.declared.records.Direction.TheVariants.{Forward, Back}
use Rattle.planner.specs.PlanBytes.{record_place, plan_length}

-- a direction's number in a record
abbrev pub direction_number : Direction → ℕ
direction_number Forward = 0
direction_number Back = 1

-- the records of a link's first k sends: send x starts at `start x`
abbrev pub link_bytes : ℕ → ℕ → (ℕ → ℕ) → ℕ → List ℕ
link_bytes link direction start k = joined (λ x. send_bytes (record { link = link; direction = direction; start = start x })) k

-- back where the level is below the offset
abbrev pub direction_by : ℕ → ℕ → ℕ
direction_by level offset = pick (ltb 0 (offset - level)) 1 0

-- a two-way link's start of send x
abbrev pub start_two : ℕ → ℕ → ℕ → ℕ → ℕ → ℕ
start_two level offset rounds cost x = pick (ltb 0 (offset - level)) ((rounds - (offset - level) + x) * cost) (x * cost)

-- when the item that send x of a link waits for is there, by the records of the link before it: at the end of the send as many sends back as the
-- board has items of its own; 0 where it is one of these
abbrev pub arrives_in : List ℕ → Feed → ℕ → ℕ
arrives_in xs feed x = pick (ltb x feed.load) 0 (word_at xs (feed.from + 6 * (x - feed.load) + 2) + feed.cost)

-- a one-way link's start of send x: the later of the end of the send before it and the arrival of the item that it waits for
unfoldable pub start_fed : (ℕ → ℕ) → ℕ → ℕ → ℕ
start_fed arrives cost zero = arrives 0
start_fed arrives cost (suc x) = max (start_fed arrives cost x + cost) (arrives (suc x))

-- a buffer has a link's place, and apart from it the records that its sends wait for
pub record Fed (xs : List ℕ) (here : Place) (count : ℕ) (feed : Feed) : Type 0 where
  pub link : here.link < 256
  pub room : here.at + 6 * count ≤ length xs
  pub fed : feed.from + 6 * (count - feed.load) ≤ length xs
  pub apart : (feed.from + 6 * (count - feed.load) ≤ here.at) ⊎ (here.at + 6 * count ≤ feed.from)

-- a link of a ring, and where its records begin in the ring's plan
pub record PlaceOf (r : Ring) (here : Place) : Type 0 where
  pub link : here.link < r.n
  pub at : here.at ≡ record_place (sum (carries r (offset r)) here.link)

-- the place of the link after one of n that carries so many items: after its records, or after the head
abbrev pub place_after : Place → ℕ → ℕ → Place
place_after here count n = record { link = next n here.link; at = pick (eqb (suc here.link) n) 15 (here.at + 6 * count) }

-- what stands in a buffer after the records of a ring's plan were put after its first 15 bytes
abbrev pub links_after : Ring → List ℕ → List ℕ
links_after r xs = (take 15 xs ++ records_of (plan r (offset r))) ++ drop (plan_length r) xs
