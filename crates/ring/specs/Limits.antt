-- Document 01, "Limits": what makes a board of three numbers, and by which number it is refused.
use Rattle.std.specs.Prelude.{ℕ, ltb, ℤ, pos, ◌-ℤ◌, Result, Ok, Err}
use Rattle.std.specs.Int.Signed.{lt_z}
use Rattle.ring.specs.declared.Board.{Board}
use Rattle.ring.specs.declared.Outside.{Outside}
use Rattle.ring.specs.declared.Outside.TheVariants.{Load, After, Cost}
use Rattle.ring.specs.Numbers.{pick}
use Rattle.ring.specs.Boards.{most_load, most_cost}

-- a where x is below lo or above hi, else b
abbrev pub outside : {A : Type 0} → ℕ → ℕ → ℕ → A → A → A
outside lo hi x a b = pick (ltb x lo) a (pick (ltb hi x) a b)

-- the same of signed numbers
abbrev pub outside_ℤ : {A : Type 0} → ℤ → ℤ → ℤ → A → A → A
outside_ℤ lo hi x a b = pick (lt_z x lo) a (pick (lt_z hi x) a b)

-- Cost where the cost is outside its limits, else the board
abbrev pub cost_of : ℕ → ℤ → ℕ → Result Board Outside
cost_of load surplus cost = outside 1 most_cost cost (Err Cost) (Ok (record { load = load; surplus = surplus; cost = cost }))

-- the first of load, load after and cost that is outside its limits, or the board
unfoldable pub board_of : ℕ → ℤ → ℕ → Result Board Outside
board_of load surplus cost =
    outside 1 most_load load (Err Load) (outside_ℤ (pos 1) (pos most_load) (pos load -ℤ surplus) (Err After) (cost_of load surplus cost))

-- the refusal number of each fault
abbrev pub number_of : Outside → ℕ
number_of Load = 7
number_of After = 8
number_of Cost = 9

-- that of the fault, and 0 for a board
abbrev pub fault_of : Result Board Outside → ℕ
fault_of (Ok board) = 0
fault_of (Err fault) = number_of fault
