-- Inner: cited by the contracts of inner functions only. What reader and writer promise is in Read, Write and Refusals.
-- What a walk over a ring's boards keeps for refusals 7 to 11, so that the rules are said once for bytes and for lists.
use Rattle.std.specs.Prelude.{ℕ, ◌+◌, eqb, ltb, ℤ, nat_abs, ◌+ℤ◌, Result, Ok, Err}
use Rattle.ring.specs.declared.Board.{Board}
use Rattle.ring.specs.declared.Outside.{Outside}
use Rattle.ring.specs.Numbers.{pick}
use Rattle.ring.specs.Limits.{board_of}
use Rattle.hop.specs.declared.Shape.{Shape}
use Rattle.hop.specs.declared.rules.Seen.{Seen}
use Rattle.hop.specs.declared.refusals.Refusal.{Refusal}
use Rattle.hop.specs.declared.refusals.Refusal.TheVariants.{UnlikeCost, Unbalanced}
use Rattle.hop.specs.Kinds.{number_of}
use Rattle.hop.specs.Refusals.{unlike}

-- how many boards have board 0's cost when board i was seen too: one more where all before it have, and it has
abbrev pub alike_with : Seen → ℕ → ℕ → ℕ
alike_with seen i cost = pick (eqb seen.alike i) (pick (eqb cost seen.first) (i + 1) seen.alike) seen.alike

-- what is kept then
abbrev pub kept_with : Seen → ℕ → ℤ → ℕ → Seen
kept_with seen i surplus cost = record { first = seen.first; alike = alike_with seen i cost; sum = seen.sum +ℤ surplus }

-- the fault of a board that was not made, or what is kept
abbrev pub seen_by : Seen → ℕ → ℤ → ℕ → Result Board Outside → Result Seen Outside
seen_by seen i surplus cost (Ok board) = Ok (kept_with seen i surplus cost)
seen_by seen i surplus cost (Err fault) = Err fault

abbrev pub seen_with : Seen → ℕ → ℕ → ℤ → ℕ → Result Seen Outside
seen_with seen i load surplus cost = seen_by seen i surplus cost (board_of load surplus cost)

-- 10 unless the kind is 2, at the first board with another cost than board 0; then 11; or the ring
abbrev pub settled_of : Shape → Seen → Result Shape Refusal
settled_of ring seen =
    let rest : Result Shape Refusal = unlike (nat_abs seen.sum) 0 (Err Unbalanced) (Ok ring) in
    pick (eqb (number_of ring.kind) 2) rest (pick (ltb seen.alike ring.n) (Err (UnlikeCost seen.alike)) rest)
