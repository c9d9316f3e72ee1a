-- Document 01, "Rings worked by hand": the rings marked *, each with what the document says of it, and the test that it is so.
-- With the rings A, B, C2, F, G and H the columns that document 02's order 1 asks for, worked by hand too; the tight links by its order 3, and after
-- the document's rings three of our own for it.
use Rattle.std.specs.Prelude.{Bool, true, false, List, [], ◌∷◌, map, ℕ, zero, suc, eqb, ℤ, pos, negsuc, ◌-ℤ◌, nat_abs, length}
use Rattle.ring.specs.Numbers.{both}
use Rattle.ring.specs.Lists.{up_to}
use Rattle.ring.specs.Boards.{Ring, ring_in}
use Rattle.ring.specs.Schedule.{load_at, in_flight, finish}
use Rattle.ring.specs.Plan.{offset, f, rounds, start_of, direction_of, carries, plan, finish_of, moves, tight}
use Rattle.ring.specs.Bytes.{plan_bytes_by}
use Rattle.ring.specs.Columns.{stretch, N, played, begins}

-- one thing that is said of a ring's plan
pub data Says : Type 0 where
  -- f of each link
  items : List ℤ → Says
  -- T
  T : ℕ → Says
  -- the finish
  ending : ℕ → Says
  -- a link that sends forward, or back, and its starts
  forward : ℕ → List ℕ → Says
  back : ℕ → List ℕ → Says
  -- a tick, and the loads of the boards and the number of items in flight then
  loads : ℕ → List ℕ → Says
  flying : ℕ → ℕ → Says
  -- how many bytes the plan has
  bytes : ℕ → Says
  -- the moves, and the tight link
  sent : ℕ → Says
  tightest : ℕ → Says
  -- a board, and the columns that it ends with: those that are there when the plan has been played, and the stretch that order 1 asks for
  columns : ℕ → List ℕ → Says

-- a ring, and what is said of it
pub record Row : Type 0 where
  pub ring : Ring
  pub says : List Says

-- all of a list of tests hold
abbrev pub every : List Bool → Bool
every [] = true
every (t ∷ ts) = both t (every ts)

-- two lists of signed numbers are the same
abbrev pub same : List ℤ → List ℤ → Bool
same [] [] = true
same [] (y ∷ ys) = false
same (x ∷ xs) [] = false
same (x ∷ xs) (y ∷ ys) = both (eqb (nat_abs (x -ℤ y)) 0) (same xs ys)

-- the same of natural numbers
abbrev pub alike : List ℕ → List ℕ → Bool
alike xs ys = same (map pos xs) (map pos ys)

-- by the offset o link i sends in this direction, and starts at these ticks
abbrev pub starts : Ring → ℕ → ℕ → ℕ → List ℕ → Bool
starts r o direction i ts = both (eqb (direction_of r o i) direction) (alike (up_to (λ j. start_of r o i (suc j)) (carries r o i)) ts)

-- what is said holds of the ring's plan by the offset o
unfoldable pub holds : Ring → ℕ → Says → Bool
holds r o (items zs) = same (up_to (f r o) r.n) zs
holds r o (T t) = eqb (rounds r) t
holds r o (ending t) = both (eqb (finish_of r o) t) (eqb (finish r (plan r o)) t)
holds r o (forward i ts) = starts r o 0 i ts
holds r o (back i ts) = starts r o 1 i ts
holds r o (loads t ls) = alike (up_to (λ i. load_at r (plan r o) i t) r.n) ls
holds r o (flying t k) = eqb (in_flight r (plan r o) t) k
holds r o (bytes k) = eqb (length (plan_bytes_by r o)) k
holds r o (sent k) = both (eqb (moves r o) k) (eqb (length (plan r o)) k)
holds r o (tightest i) = eqb (tight r o) i
holds r o (columns i xs) = both (alike ((played r (plan r o)).board i) xs) (alike (stretch (N r) (begins r o i) (r.after i)) xs)

-- all that is said of each ring holds
abbrev pub all_hold : List Row → Bool
all_hold rows = every (map (λ (w : Row). every (map (holds w.ring (offset w.ring)) w.says)) rows)

-- −k, to write the table with
abbrev pub minus : ℕ → ℤ
minus zero = pos 0
minus (suc k) = negsuc k

-- natural numbers as signed ones
abbrev pub ints : List ℕ → List ℤ
ints xs = map pos xs

-- rings A, B, C, C2, D, E, F, G, H; A with link 0 upgraded, which ends as it did, and with link 1 upgraded; a ring in which the link with the fewer
-- items takes as long as the other
abbrev pub worked : List Row
worked =
    record {
      ring = ring_in 2 4 (5 ∷ 1 ∷ 1 ∷ 2 ∷ []) (pos 3 ∷ pos 0 ∷ minus 2 ∷ minus 1 ∷ []) (2 ∷ 3 ∷ 1 ∷ 4 ∷ []);
      says =
          items (ints (3 ∷ 3 ∷ 1 ∷ 0 ∷ [])) ∷ ending 9 ∷ sent 7 ∷ tightest 1
          ∷ forward 0 (0 ∷ 2 ∷ 4 ∷ []) ∷ forward 1 (0 ∷ 3 ∷ 6 ∷ []) ∷ forward 2 (0 ∷ []) ∷ forward 3 []
          ∷ loads 3 (3 ∷ 1 ∷ 1 ∷ 3 ∷ []) ∷ flying 3 1
          ∷ columns 0 (0 ∷ 1 ∷ []) ∷ columns 1 (2 ∷ []) ∷ columns 2 (3 ∷ 4 ∷ 5 ∷ []) ∷ columns 3 (6 ∷ 7 ∷ 8 ∷ [])
          ∷ [];
    }
    ∷ record {
      ring = ring_in 3 4 (6 ∷ 1 ∷ 1 ∷ 1 ∷ []) (pos 4 ∷ minus 2 ∷ minus 1 ∷ minus 1 ∷ []) (5 ∷ 5 ∷ 5 ∷ 5 ∷ []);
      says =
          items (pos 2 ∷ pos 0 ∷ minus 1 ∷ minus 2 ∷ []) ∷ T 4 ∷ ending 20 ∷ tightest 0
          ∷ forward 0 (0 ∷ 5 ∷ []) ∷ forward 1 [] ∷ back 2 (15 ∷ []) ∷ back 3 (10 ∷ 15 ∷ [])
          ∷ columns 0 (2 ∷ 3 ∷ []) ∷ columns 1 (4 ∷ 5 ∷ 6 ∷ []) ∷ columns 2 (7 ∷ 8 ∷ []) ∷ columns 3 (0 ∷ 1 ∷ [])
          ∷ [];
    }
    ∷ record {
      ring = ring_in 1 2 (2 ∷ 1 ∷ []) (pos 1 ∷ minus 1 ∷ []) (7 ∷ 7 ∷ []);
      says = items (ints (1 ∷ 0 ∷ [])) ∷ ending 7 ∷ [];
    }
    ∷ record {
      ring = ring_in 1 2 (1 ∷ 2 ∷ []) (minus 1 ∷ pos 1 ∷ []) (7 ∷ 7 ∷ []);
      says = items (ints (0 ∷ 1 ∷ [])) ∷ ending 7 ∷ tightest 1 ∷ columns 0 (2 ∷ 0 ∷ []) ∷ columns 1 (1 ∷ []) ∷ [];
    }
    ∷ record {
      ring = ring_in 2 2 (2 ∷ 1 ∷ []) (pos 1 ∷ minus 1 ∷ []) (1 ∷ 100 ∷ []);
      says = ending 1 ∷ tightest 0 ∷ [];
    }
    ∷ record {
      ring = ring_in 1 3 (1 ∷ 1 ∷ 1 ∷ []) (pos 0 ∷ pos 0 ∷ pos 0 ∷ []) (1 ∷ 1 ∷ 1 ∷ []);
      says = ending 0 ∷ bytes 15 ∷ tightest 0 ∷ [];
    }
    ∷ record {
      ring = ring_in 1 3 (2 ∷ 1 ∷ 1 ∷ []) (pos 1 ∷ pos 0 ∷ minus 1 ∷ []) (1 ∷ 1 ∷ 1 ∷ []);
      says = items (ints (1 ∷ 1 ∷ 0 ∷ [])) ∷ ending 1 ∷ forward 1 (0 ∷ []) ∷ columns 0 (0 ∷ []) ∷ columns 1 (1 ∷ []) ∷ columns 2 (2 ∷ 3 ∷ []) ∷ [];
    }
    ∷ record {
      ring =
          ring_in 3 6 (3 ∷ 3 ∷ 3 ∷ 1 ∷ 1 ∷ 1 ∷ []) (pos 2 ∷ pos 2 ∷ pos 2 ∷ minus 2 ∷ minus 2 ∷ minus 2 ∷ [])
          (1 ∷ 1 ∷ 1 ∷ 1 ∷ 1 ∷ 1 ∷ []);
      says =
          items (minus 1 ∷ pos 1 ∷ pos 3 ∷ pos 1 ∷ minus 1 ∷ minus 3 ∷ []) ∷ ending 3 ∷ tightest 2
          ∷ columns 0 (3 ∷ []) ∷ columns 1 (4 ∷ []) ∷ columns 2 (5 ∷ [])
          ∷ columns 3 (6 ∷ 7 ∷ 8 ∷ []) ∷ columns 4 (9 ∷ 10 ∷ 11 ∷ []) ∷ columns 5 (0 ∷ 1 ∷ 2 ∷ [])
          ∷ [];
    }
    ∷ record {
      ring = ring_in 3 3 (4 ∷ 1 ∷ 1 ∷ []) (pos 3 ∷ minus 2 ∷ minus 1 ∷ []) (1 ∷ 1 ∷ 1 ∷ []);
      says = items (pos 2 ∷ pos 0 ∷ minus 1 ∷ []) ∷ ending 3 ∷ columns 0 (1 ∷ []) ∷ columns 1 (2 ∷ 3 ∷ 4 ∷ []) ∷ columns 2 (5 ∷ 0 ∷ []) ∷ [];
    }
    ∷ record {
      ring = ring_in 2 4 (5 ∷ 1 ∷ 1 ∷ 2 ∷ []) (pos 3 ∷ pos 0 ∷ minus 2 ∷ minus 1 ∷ []) (1 ∷ 3 ∷ 1 ∷ 4 ∷ []);
      says = ending 9 ∷ tightest 1 ∷ [];
    }
    ∷ record {
      ring = ring_in 2 4 (5 ∷ 1 ∷ 1 ∷ 2 ∷ []) (pos 3 ∷ pos 0 ∷ minus 2 ∷ minus 1 ∷ []) (2 ∷ 2 ∷ 1 ∷ 4 ∷ []);
      says = ending 6 ∷ tightest 0 ∷ [];
    }
    ∷ record {
      ring = ring_in 2 3 (3 ∷ 2 ∷ 1 ∷ []) (pos 2 ∷ pos 1 ∷ minus 3 ∷ []) (3 ∷ 2 ∷ 9 ∷ []);
      says = items (ints (2 ∷ 3 ∷ 0 ∷ [])) ∷ ending 6 ∷ tightest 0 ∷ [];
    }
    ∷ []
