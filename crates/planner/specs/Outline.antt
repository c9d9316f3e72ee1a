-- Inner: cited by the contracts of the planner's inner functions only. What the planner promises is in Answer, Traffic, Turn and PlanBytes.
-- The numbers of a ring's plan, as the planner's structs hold them.
use Rattle.std.specs.Prelude.{ℕ, ◌-◌, eqb}
use Rattle.ring.specs.Numbers.{pick, greatest}
use Rattle.ring.specs.Boards.{Ring}
use Rattle.ring.specs.Plan.{low, high, offset, rounds, link_time, moves, tight, finish_of}
use Rattle.planner.specs.declared.sums.Span.{Span}
use Rattle.planner.specs.declared.sums.Tally.{Tally}
use Rattle.planner.specs.declared.sums.Outline.{Outline}

-- the least and the greatest level
abbrev pub span_of : Ring → Span
span_of r = record { low = low r; high = high r }

-- T of kind 3, and 0 of another kind, which asks for none
abbrev pub rounds_of : Ring → ℕ
rounds_of r = pick (eqb r.kind 3) (rounds r) 0

-- all items carried where o is taken from every level, the lowest link that takes longest for its items, and how long it takes
abbrev pub tally_of : Ring → ℕ → Tally
tally_of r o = record { moves = record { 0 = moves r o }; tight = tight r o; slowest = record { 0 = greatest (link_time r o) (r.n - 1) } }

-- the numbers of the plan
abbrev pub outline_of : Ring → Outline
outline_of r =
    record {
      offset = offset r;
      rounds = record { 0 = rounds_of r };
      moves = record { 0 = moves r (offset r) };
      tight = tight r (offset r);
      finish = record { 0 = finish_of r (offset r) };
    }
