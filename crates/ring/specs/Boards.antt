-- Document 01, "Boards, links, ticks": a ring, its neighbours, its limits, and what an accepted ring is.
use Rattle.std.specs.Prelude.{◌≡◌, List, ◌⊎◌, ℕ, zero, suc, ◌-◌, ◌≤◌, ◌<◌, eqb, ℤ, pos, ◌-ℤ◌, nat_abs}
use Rattle.ring.specs.Numbers.{pick, sum}
use Rattle.ring.specs.Lists.{each, each_ℤ}

-- A ring as natural numbers: n boards, board i with the load `load i` that is to become `after i`, and link i from board i to the
-- next with the cost `cost i`, the ticks for one item either way.
pub record Ring : Type 0 where
  pub kind : ℕ
  pub n : ℕ
  pub load : ℕ → ℕ
  pub after : ℕ → ℕ
  pub cost : ℕ → ℕ

-- the ring of a job's numbers: the load after is load − surplus. Where that is below 0, which refusal 8 keeps out, it is its size
abbrev pub ring_of : ℕ → ℕ → (ℕ → ℕ) → (ℕ → ℤ) → (ℕ → ℕ) → Ring
ring_of kind n load surplus cost =
    record { kind = kind; n = n; load = load; after = λ i. nat_abs (pos (load i) -ℤ surplus i); cost = cost }

-- the same of lists of them
abbrev pub ring_in : ℕ → ℕ → List ℕ → List ℤ → List ℕ → Ring
ring_in kind n loads surpluses costs = ring_of kind n (each loads) (each_ℤ surpluses) (each costs)

-- of n boards, the board after board i, (i + 1) mod n; link i leads to it
abbrev pub next : ℕ → ℕ → ℕ
next n i = pick (eqb (suc i) n) 0 (suc i)

-- the board before board i; its link leads to board i. With n = 2 the links i and `prev n i` are two
abbrev pub prev : ℕ → ℕ → ℕ
prev n zero = n - 1
prev n (suc i) = i

-- the kinds of ring are 1 to 3
abbrev pub last_kind : ℕ
last_kind = 3

-- a ring has 2 to 128 boards
abbrev pub fewest_boards : ℕ
fewest_boards = 2

abbrev pub most_boards : ℕ
most_boards = 128

-- the limits: a load, and a load after, is 1 to 4,095
abbrev pub most_load : ℕ
most_load = 4095

-- and a cost 1 to 8,000
abbrev pub most_cost : ℕ
most_cost = 8000

-- lo to hi, both among them
abbrev pub Within : ℕ → ℕ → ℕ → Type 0
Within lo hi x = (lo ≤ x) × (x ≤ hi)

-- the kind whose links send both ways
abbrev pub TwoWay : ℕ → Type 0
TwoWay kind = kind ≡ 3

-- links of kinds 1 and 3 have one cost
abbrev pub OneCost : ℕ → Type 0
OneCost kind = (kind ≡ 1) ⊎ (kind ≡ 3)

-- what a ring is that refusals 4 to 11 let through; `after` has no sign, so a negative load − surplus is for refusal 8 alone to see
pub record Accepted (r : Ring) : Type 0 where
  pub kinds : Within 1 last_kind r.kind
  pub boards : Within fewest_boards most_boards r.n
  pub loads : (i : ℕ) → i < r.n → Within 1 most_load (r.load i)
  pub afters : (i : ℕ) → i < r.n → Within 1 most_load (r.after i)
  pub costs : (i : ℕ) → i < r.n → Within 1 most_cost (r.cost i)
  pub alike : OneCost r.kind → (i : ℕ) → i < r.n → r.cost i ≡ r.cost 0
  pub balanced : sum r.load r.n ≡ sum r.after r.n
