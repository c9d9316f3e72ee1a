-- Document 01, "The job in hand": the three kinds of ring, and their numbers.
use Rattle.std.specs.Prelude.{ℕ, eqb, Result, Ok, Err}
use Rattle.ring.specs.Numbers.{pick}
use Rattle.hop.specs.declared.kinds.Kind.{Kind}
use Rattle.hop.specs.declared.kinds.Kind.TheVariants.{OneWay, MixedOneWay, TwoWay}
use Rattle.hop.specs.declared.refusals.Refusal.{Refusal}
use Rattle.hop.specs.declared.refusals.Refusal.TheVariants.{NoKind}

-- one way with one cost, one way with a cost for each link, two way with one cost
abbrev pub number_of : Kind → ℕ
number_of OneWay = 1
number_of MixedOneWay = 2
number_of TwoWay = 3

-- the kind of a number, or 4 where it is not 1, 2 or 3
abbrev pub kind_of : ℕ → Result Kind Refusal
kind_of number = pick (eqb number 1) (Ok OneWay) (pick (eqb number 2) (Ok MixedOneWay) (pick (eqb number 3) (Ok TwoWay) (Err NoKind)))
