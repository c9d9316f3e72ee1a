-- Document 02, order 1: the columns are numbered, a schedule is played over them, and what each board must end with.
use Rattle.std.specs.Prelude.{List, [], ◌∷◌, ◌++◌, Bool, ℕ, zero, suc, ◌+◌, ◌-◌, ◌%◌, eqb, ℤ, pos, negsuc, ◌-ℤ◌, length, take, drop}
use Rattle.ring.specs.Numbers.{pick, sum}
use Rattle.ring.specs.Lists.{joined, up_to}
use Rattle.ring.specs.Boards.{Ring, prev}
use Rattle.ring.specs.Schedule.{Send, sender, receiver, ends, finish}
use Rattle.ring.specs.Plan.{f, plan}

-- where the columns are: the list of each board, and what is under way on each link in each direction, one column or none
pub record Places : Type 0 where
  pub board : ℕ → List ℕ
  pub link : ℕ → ℕ → List ℕ

-- g, but x at i
abbrev pub put : {A : Type 0} → (ℕ → A) → ℕ → A → ℕ → A
put g i x j = pick (eqb j i) x (g j)

-- board i now has the list xs, the link of a send has ys in its direction, and all else stays
abbrev pub moved : Send → ℕ → List ℕ → List ℕ → Places → Places
moved s i xs ys c = record { board = put c.board i xs; link = put c.link s.link (put (c.link s.link) s.direction ys) }

-- "A forward send takes a board's last column", "a back send takes the first": that column, as a list. From an empty board a send takes none and
-- brings none; a plan has no such send (ring/proofs/Order1, `none_empty`)
abbrev pub taken : Send → List ℕ → List ℕ
taken s xs = pick (eqb s.direction 0) (drop (length xs - 1) xs) (take 1 xs)

-- and the list without it
abbrev pub rest : Send → List ℕ → List ℕ
rest s xs = pick (eqb s.direction 0) (take (length xs - 1) xs) (drop 1 xs)

-- "the next board puts it first", "the other board puts it last": the list xs with the column that has come
abbrev pub brought : Send → List ℕ → List ℕ → List ℕ
brought s x xs = pick (eqb s.direction 0) (x ++ xs) (xs ++ x)

-- what g does for each send that passes a test, one after the other in the schedule's order
unfoldable pub for_each : (Send → Bool) → (Send → Places → Places) → List Send → Places → Places
for_each p g [] c = c
for_each p g (s ∷ σ) c = for_each p g σ (pick (p s) (g s c) c)

module _ (r : Ring) where
  -- a send starts: its column goes from the sender's list to the link. One that is still under way there would be lost; there is none, since the
  -- sends of one board don't overlap and what ends at this tick has arrived (no column is lost: ring/proofs/Order1, `each_once`)
  abbrev pub departs : Send → Places → Places
  departs s c = moved s (sender r s) (rest s (c.board (sender r s))) (taken s (c.board (sender r s))) c

  -- a send ends: its column goes from the link to the receiver's list
  abbrev pub arrives : Send → Places → Places
  arrives s c = moved s (receiver r s) (brought s (c.link s.link s.direction) (c.board (receiver r s))) [] c

  -- the arrivals of tick t: the sends that end then
  abbrev pub arrived : List Send → ℕ → Places → Places
  arrived σ t c = for_each (λ s. eqb (ends r s) t) arrives σ c

  -- the sends of tick t: those that start then
  abbrev pub departed : List Send → ℕ → Places → Places
  departed σ t c = for_each (λ s. eqb s.start t) departs σ c

  -- "At a tick, arrivals come before sends."
  unfoldable pub tick : List Send → ℕ → Places → Places
  tick σ t c = departed σ t (arrived σ t c)

  -- the loads of all boards before i
  abbrev pub loads_before : ℕ → ℕ
  loads_before i = sum r.load i

  -- the columns in all
  abbrev pub N : ℕ
  N = loads_before r.n

  -- "Groups number their columns from 0, board 0's first": board i has load i of them, from the loads before it on; none is under way
  abbrev pub at_first : Places
  at_first = record { board = λ i. up_to (λ x. loads_before i + x) (r.load i); link = λ l w. [] }

  -- after the ticks 0 .. t − 1
  unfoldable pub after_ticks : List Send → ℕ → Places
  after_ticks σ zero = at_first
  after_ticks σ (suc t) = tick σ t (after_ticks σ t)

  -- at tick t, as document 01 means it: its arrivals have come, and its sends are still to start
  abbrev pub at_tick : List Send → ℕ → Places
  at_tick σ t = arrived σ t (after_ticks σ t)

  -- a schedule played: the ticks 0 .. its finish, at which the last send ends
  abbrev pub played : List Send → Places
  played σ = after_ticks σ (suc (finish r σ))

  -- "Play the plan over them and leave the boards' lists end to end, board 0's first.": the plan by an offset o
  unfoldable pub columns_of : ℕ → List ℕ
  columns_of o = joined (played (plan r o)).board r.n

-- a stretch: k numbers from b on, wrapping after m − 1
abbrev pub stretch : ℕ → ℕ → ℕ → List ℕ
stretch m b k = up_to (λ x. (b + x) % m) k

-- z mod m, 0 to m − 1; negsuc k is −(k + 1)
abbrev pub mod_ℤ : ℤ → ℕ → ℕ
mod_ℤ (pos k) m = k % m
mod_ℤ (negsuc k) m = m - 1 - k % m

-- where board i's stretch begins: "(the loads of all boards before i, minus f of link i − 1) mod N", "board 0 looks at link n − 1"
abbrev pub begins : Ring → ℕ → ℕ → ℕ
begins r o i = mod_ℤ (pos (loads_before r i) -ℤ f r o (prev r.n i)) (N r)
