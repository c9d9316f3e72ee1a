-- Document 01, "Refusal numbers", those that reader and writer share: from numbers alone, so that they say the same of bytes and of lists.
use Rattle.std.specs.Prelude.{ℕ, zero, suc, eqb, ℤ, nat_abs, Option, Some, None, Result, Ok, Err}
use Rattle.ring.specs.declared.Board.{Board}
use Rattle.ring.specs.declared.Outside.{Outside}
use Rattle.ring.specs.Numbers.{pick, sum_ℤ}
use Rattle.ring.specs.Boards.{fewest_boards, most_boards}
use Rattle.ring.specs.Limits.{outside, board_of}
use Rattle.hop.specs.declared.Shape.{Shape}
use Rattle.hop.specs.declared.refusals.Refusal.{Refusal}
use Rattle.hop.specs.declared.refusals.Refusal.TheVariants.{BoardCount, BadBoard, UnlikeCost, Unbalanced}
use Rattle.hop.specs.Kinds.{number_of, kind_of}

-- a where the two differ, else b
abbrev pub unlike : {A : Type 0} → ℕ → ℕ → A → A → A
unlike x y a b = pick (eqb x y) b a

-- a refusal stands; a success goes on to the next refusals
abbrev pub goes_on : {A : Type 0} → Result A Refusal → (A → Result Shape Refusal) → Result Shape Refusal
goes_on (Ok a) next = next a
goes_on (Err r) next = Err r

-- 4 where the kind is not 1, 2 or 3; 5 where n is not 2 to 128; or the ring
abbrev pub shape_of : ℕ → ℕ → Result Shape Refusal
shape_of kind n = goes_on (kind_of kind) (λ kind. outside fewest_boards most_boards n (Err BoardCount) (Ok (record { kind = kind; n = n })))

-- a refusal where there is one, else next
abbrev pub refuses : Option Refusal → Result Shape Refusal → Result Shape Refusal
refuses None next = next
refuses (Some r) next = Err r

-- refused by the first board below n that has a fault, else next
unfoldable pub faultless : (ℕ → Option Refusal) → ℕ → Result Shape Refusal → Result Shape Refusal
faultless fault zero next = next
faultless fault (suc k) next = faultless fault k (refuses (fault k) next)

-- the fault of board i that was not made, and none of one that was
abbrev pub unmade : ℕ → Result Board Outside → Option Refusal
unmade i (Ok board) = None
unmade i (Err fault) = Some (BadBoard fault i)

-- 7, 8 or 9 where board i has that fault
abbrev pub board_fault : (ℕ → ℕ) → (ℕ → ℤ) → (ℕ → ℕ) → ℕ → Option Refusal
board_fault load surplus cost i = unmade i (board_of (load i) (surplus i) (cost i))

-- 10 where the cost of board i differs from board 0's
abbrev pub cost_fault : (ℕ → ℕ) → ℕ → Option Refusal
cost_fault cost i = unlike (cost i) (cost 0) (Some (UnlikeCost i)) None

-- 11 where the surpluses don't sum to 0, else the ring
abbrev pub balanced_of : Shape → (ℕ → ℤ) → Result Shape Refusal
balanced_of ring surplus = unlike (nat_abs (sum_ℤ surplus ring.n)) 0 (Err Unbalanced) (Ok ring)

-- unless the kind is 2, 10 at the first board whose cost differs from board 0's; then 11; or the ring
abbrev pub alike_of : Shape → (ℕ → ℤ) → (ℕ → ℕ) → Result Shape Refusal
alike_of ring surplus cost =
    pick (eqb (number_of ring.kind) 2) (balanced_of ring surplus) (faultless (cost_fault cost) ring.n (balanced_of ring surplus))

-- 7, 8, 9 on board 0, on board 1 and so on; then 10; then 11; or the ring
unfoldable pub ring_check : Shape → (ℕ → ℕ) → (ℕ → ℤ) → (ℕ → ℕ) → Result Shape Refusal
ring_check ring load surplus cost = faultless (board_fault load surplus cost) ring.n (alike_of ring surplus cost)
