-- A choice, and sums, least and greatest values of a function on the numbers below a bound.
use Rattle.std.specs.Prelude.{ℕ, zero, suc, ◌+◌, min, max, Bool, true, false, ltb, ℤ, pos, ◌+ℤ◌}

-- the first where the test holds, else the second
abbrev pub pick : {A : Type 0} → Bool → A → A → A
pick true a b = a
pick false a b = b

-- both tests hold
abbrev pub both : Bool → Bool → Bool
both true b = b
both false b = false

-- 1 where the test holds, else 0
abbrev pub one_if : Bool → ℕ
one_if true = 1
one_if false = 0

-- g 0 + .. + g (k - 1)
unfoldable pub sum : (ℕ → ℕ) → ℕ → ℕ
sum g zero = 0
sum g (suc k) = sum g k + g k

-- the same of signed numbers
unfoldable pub sum_ℤ : (ℕ → ℤ) → ℕ → ℤ
sum_ℤ g zero = pos 0
sum_ℤ g (suc k) = sum_ℤ g k +ℤ g k

-- the least of g 0 .. g k
unfoldable pub least : (ℕ → ℕ) → ℕ → ℕ
least g zero = g 0
least g (suc k) = min (least g k) (g (suc k))

-- the greatest of g 0 .. g k
unfoldable pub greatest : (ℕ → ℕ) → ℕ → ℕ
greatest g zero = g 0
greatest g (suc k) = max (greatest g k) (g (suc k))

-- the lowest of the numbers 0 .. k at which g is greatest
unfoldable pub peak : (ℕ → ℕ) → ℕ → ℕ
peak g zero = 0
peak g (suc k) = pick (ltb (g (peak g k)) (g (suc k))) (suc k) (peak g k)
