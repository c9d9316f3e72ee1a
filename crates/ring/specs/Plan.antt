-- Document 01, "The plan": how many items each link carries, in which direction, when each send starts, and when the last one ends.
use Rattle.std.specs.Prelude.{◌≡◌, List, ℕ, zero, suc, ◌+◌, ◌*◌, ◌-◌, ◌/◌, ◌≤◌, ◌<◌, max, eqb, ltb, ℤ, pos, ◌-ℤ◌, ◌≤ℤ◌}
use Rattle.ring.specs.Numbers.{pick, sum, sum_ℤ, least, greatest, peak}
use Rattle.ring.specs.Lists.{joined, up_to}
use Rattle.ring.specs.Boards.{Ring, prev}
use Rattle.ring.specs.Schedule.{Send}

-- the ends of a link's sends: send j ends a cost after the later of the end of send j − 1 and the end of send j − load on the link
-- before, whose ends are `before`. Send 0 ends at 0
unfoldable pub ends_after : (ℕ → ℕ) → ℕ → ℕ → ℕ → ℕ
ends_after before cost load zero = 0
ends_after before cost load (suc j) = max (ends_after before cost load j) (before (suc j - load)) + cost

module _ (r : Ring) where
  -- board i's surplus: load − load after
  abbrev pub surplus : ℕ → ℤ
  surplus i = pos (r.load i) -ℤ pos (r.after i)

  -- S(i), the sum of surpluses of boards 0 to i
  abbrev pub S : ℕ → ℤ
  S i = sum_ℤ surplus (suc i)

  -- S is least after link k, and greatest after link m
  abbrev pub LeastAt : ℕ → Type 0
  LeastAt k = (k < r.n) × ((i : ℕ) → i < r.n → S k ≤ℤ S i)

  abbrev pub GreatestAt : ℕ → Type 0
  GreatestAt m = (m < r.n) × ((i : ℕ) → i < r.n → S i ≤ℤ S m)

  -- S(i) raised by the items of the whole ring, so that it is never below 0: the loads of boards 0 to i, and what the boards after
  -- i are to end with. (ring/proofs/Level shows that it is S(i) and the total.)
  unfoldable pub level : ℕ → ℕ
  level i = sum r.load (suc i) + (sum r.after r.n - sum r.after (suc i))

  -- the least of them, so low raised as S is
  unfoldable pub low : ℕ
  low = least level (r.n - 1)

  -- the greatest of them, high
  unfoldable pub high : ℕ
  high = greatest level (r.n - 1)

  -- high − low
  abbrev pub R : ℕ
  R = high - low

  -- the number taken from every level, so document 01's offset raised as S is: low in kinds 1 and 2, low + floor(R / 2) in kind 3
  unfoldable pub offset : ℕ
  offset = pick (eqb r.kind 3) (low + R / 2) low

  -- what the links carry where o, raised as S is, is the number taken from every S
  module _ (o : ℕ) where
    -- f(i) where it is positive: the sends forward
    unfoldable pub ahead : ℕ → ℕ
    ahead i = level i - o

    -- −f(i) where it is negative: the sends back. One of the two is 0
    unfoldable pub behind : ℕ → ℕ
    behind i = o - level i

    -- f(i), signed
    abbrev pub f : ℕ → ℤ
    f i = pos (ahead i) -ℤ pos (behind i)

    -- |f(i)|, the items that link i carries
    abbrev pub carries : ℕ → ℕ
    carries i = ahead i + behind i

  -- kinds 1 and 2: the end of send j of link i, asked of at most d links back round the ring
  unfoldable pub end_back : ℕ → ℕ → ℕ → ℕ
  end_back zero i j = 0
  end_back (suc d) i j = ends_after (end_back d (prev r.n i)) (r.cost i) (r.load i) j

  -- kinds 1 and 2: the end of send j of link i. No link need be asked of more than once, since one carries nothing
  abbrev pub end_of : ℕ → ℕ → ℕ
  end_of = end_back r.n

  -- of any starts, the end of the send that send j of link i waits for: of send j − load on the link before if j is more than the load of
  -- board i, else 0
  abbrev pub fed : (ℕ → ℕ → ℕ) → ℕ → ℕ → ℕ
  fed start i j = pick (ltb (r.load i) j) (start (prev r.n i) (j - r.load i) + r.cost (prev r.n i)) 0

  -- |surplus| of board i
  abbrev pub surplus_size : ℕ → ℕ
  surplus_size i = max (r.load i - r.after i) (r.after i - r.load i)

  -- T of kind 3: the greater of the largest |surplus| and ceil(R / 2)
  unfoldable pub rounds : ℕ
  rounds = max (greatest surplus_size (r.n - 1)) ((R + 1) / 2)

  -- the plan where o, raised as S is, is the number taken from every S
  module _ (o : ℕ) where
    -- every |f| is at most T
    abbrev pub WithinT : Type 0
    WithinT = (i : ℕ) → i < r.n → carries o i ≤ rounds

    -- the rule of waiting in the document's words, of any starts: send j + 1 of link i starts at the later of the end of send j on link i (0 if
    -- there is none) and the end of the send that it waits for
    abbrev pub Waits : (ℕ → ℕ → ℕ) → Type 0
    Waits start =
        (i j : ℕ) → i < r.n → j < carries o i → start i (suc j) ≡ max (pick (ltb 0 j) (start i j + r.cost i) 0) (fed start i (suc j))

    -- the start of send j (from 1) of link i: in kind 3 (j − 1) × c forward and (T − |f| + j − 1) × c back, else a cost before its end
    unfoldable pub start_of : ℕ → ℕ → ℕ
    start_of i j =
        pick (eqb r.kind 3)
        (pick (ltb 0 (behind o i)) ((rounds - behind o i + (j - 1)) * r.cost i) ((j - 1) * r.cost i))
        (end_of i j - r.cost i)

    -- back where f(i) is negative, else forward
    abbrev pub direction_of : ℕ → ℕ
    direction_of i = pick (ltb 0 (behind o i)) 1 0

    -- send j (from 1) of link i
    abbrev pub send_of : ℕ → ℕ → Send
    send_of i j = record { link = i; direction = direction_of i; start = start_of i j }

    -- the first k sends of link i
    abbrev pub link_sends : ℕ → ℕ → List Send
    link_sends i k = up_to (λ j. send_of i (suc j)) k

    -- the sends of the links below k, by link upward, then by start
    abbrev pub sends_below : ℕ → List Send
    sends_below k = joined (λ i. link_sends i (carries o i)) k

    -- the plan
    abbrev pub plan : List Send
    plan = sends_below r.n

    -- link i's items × cost
    abbrev pub link_time : ℕ → ℕ
    link_time i = carries o i * r.cost i

    -- the finish: T × c in kind 3, else the greatest f(i) × cost(i)
    unfoldable pub finish_of : ℕ
    finish_of = pick (eqb r.kind 3) (rounds * r.cost 0) (greatest link_time (r.n - 1))

    -- the sum of |f(i)|
    unfoldable pub moves : ℕ
    moves = sum (carries o) r.n

    -- document 02, order 3: the lowest-numbered link with the greatest items × cost; link 0 where there are no moves
    unfoldable pub tight : ℕ
    tight = peak link_time (r.n - 1)
