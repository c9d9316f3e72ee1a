-- Inner: cited by the contracts of the planner's inner functions only. What the planner promises is in Answer, Traffic, Turn and PlanBytes.
-- The levels of the links, each raised from the one before by the surplus of the board between.
use Rattle.std.specs.Prelude.{◌≡◌, List, [], ◌∷◌, ℕ, ◌*◌, ◌≤◌, ℤ, pos, nat_abs, ◌+ℤ◌, length}
use Rattle.std.specs.Coded.{×_prop, le_prop, Coded-set, coded_ℤ}
use Rattle.ring.specs.Numbers.{sum_ℤ}
use Rattle.ring.specs.Lists.{each_ℤ}
use Rattle.ring.specs.Boards.{most_load}

-- the level that a surplus leads to
abbrev pub raised : ℕ → ℤ → ℕ
raised level surplus = nat_abs (pos level +ℤ surplus)

-- the levels that surpluses lead to, one after the other, from this one on
abbrev pub levels_from : ℕ → List ℤ → List ℕ
levels_from level [] = []
levels_from level (s ∷ rest) = raised level s ∷ levels_from (raised level s) rest

-- they lead to no level below 0, and to none above twice the most items of a ring, as 32 bits with a sign hold it
abbrev pub Leads : ℕ → List ℤ → Type 0
Leads level [] = level ≤ 256 * most_load
Leads level (s ∷ rest) = (level ≤ 256 * most_load) × ((pos (raised level s) ≡ pos level +ℤ s) × Leads (raised level s) rest)

-- there is one proof of it at most
pub Leads-prop : (level : ℕ) (surpluses : List ℤ) → IsProp (Leads level surpluses)
Leads-prop level [] = le_prop
Leads-prop level (s ∷ rest) = ×_prop le_prop (×_prop (Coded-set coded_ℤ _ _) (Leads-prop (raised level s) rest))

-- the level of the link before board i, from the total of the loads: raised by the surpluses of the boards below i
abbrev pub before : ℕ → List ℤ → ℕ → ℕ
before total surpluses i = nat_abs (pos total +ℤ sum_ℤ (each_ℤ surpluses) i)

-- n surpluses that lead from this total to no level below 0, and to none above twice the most items of a ring, as 32 bits with a sign hold it
pub record Levels (n total : ℕ) (surpluses : List ℤ) : Type 0 where
  pub long : n ≤ length surpluses
  pub whole : (i : ℕ) → i ≤ n → pos (before total surpluses i) ≡ pos total +ℤ sum_ℤ (each_ℤ surpluses) i
  pub few : (i : ℕ) → i ≤ n → before total surpluses i ≤ 256 * most_load
