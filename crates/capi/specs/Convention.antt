-- How a caller in another language is told an answer: the code that is returned, and the three lent values.
use Rattle.std.specs.Prelude.{List, [], ◌∷◌, ℕ, ◌+◌, ◌*◌}
use Rattle.ring.specs.Lists.{each}
use Rattle.hop.specs.Answers.{Answer, success, refusal}

-- 0 of success; of a refusal its number in the lowest byte and its board above it
abbrev pub code_of : Answer → ℕ
code_of (success values) = 0
code_of (refusal number board) = number + 256 * board

-- three values, zeros where a list has fewer
abbrev pub three_of : List ℕ → List ℕ
three_of values = each values 0 ∷ each values 1 ∷ each values 2 ∷ []

-- the three lent values afterwards: those that success returns; a refusal leaves what was there
abbrev pub values_of : Answer → List ℕ → List ℕ
values_of (success values) xs = three_of values
values_of (refusal number board) xs = xs
