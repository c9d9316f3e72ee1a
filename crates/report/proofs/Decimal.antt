-- A number of at most ten digits in decimal: it is what std writes of it, it reads back, each byte is a digit, the first is no 0.
-- Assumes nothing.
use Rattle.std.proofs.Common.{◌≡◌, refl, ℕ, zero, suc, ◌+◌, ◌*◌, ◌-◌, ◌/◌, ◌%◌, ◌^◌, ◌≤◌, ◌<◌, List, [], ◌∷◌, ◌++◌, length, get_or, ltb, true, false, length-append, arith}
use borrow.Author.Tests.{lt-ltb, le-ltb}
use Rattle.std.specs.Fmt.{decimal as std_decimal}
use Rattle.std.proofs.lemmas.Fmt.{AppendsLastDigit, decimal_from_appends, decimal_by_steps, decimal_step, decimal_digit, length-decimal-le}
use Rattle.ring.specs.Numbers.{pick}
use Rattle.ring.specs.Lists.{Each}
use Rattle.ring.proofs.Totals.{each_append}
use Rattle.report.specs.Text.{digits, decimal}

mod_small : (n : ℕ) → n < 10 → n % 10 ≡ n
mod_small n h = omega arith

last_digit : AppendsLastDigit digits
unfolding digits
last_digit = record { one = λ k n h. rw (lt-ltb n 10 h, mod_small n h); more = λ k n h. rw (le-ltb n 10 h) }

as_std : (n : ℕ) → n < 10 ^ 10 → decimal n ≡ std_decimal n
unfolding decimal
as_std n h = decimal_from_appends digits last_digit 10 n (omega arith) (length-decimal-le 10 n (omega arith) h (omega arith))

-- what holds of one digit, and of ten times as much with a digit more, holds of every number
by_digit : (P : ℕ → List ℕ → Type 0) → ((n : ℕ) → n < 10 → P n ((48 + n) ∷ [])) → ((n : ℕ) (ds : List ℕ) → 10 ≤ n → P (n / 10) ds → P n (ds ++ (48 + n % 10) ∷ []))
    → (n : ℕ) → n < 10 ^ 10 → P n (decimal n)
by_digit P one more n h = rw (as_std n h) (decimal_by_steps P one more n (omega arith))

-- the number that digits say after those that say a
pub value : ℕ → List ℕ → ℕ
value a [] = a
value a (d ∷ ds) = value (a * 10 + (d - 48)) ds

value_last : (a : ℕ) (ds : List ℕ) (d : ℕ) → value a (ds ++ d ∷ []) ≡ value a ds * 10 + (d - 48)
unfolding value
value_last a [] d = refl
value_last a (x ∷ ds) d = value_last (a * 10 + (x - 48)) ds d

pub decimal_value : (n : ℕ) → n < 10 ^ 10 → value 0 (decimal n) ≡ n
unfolding value
decimal_value = by_digit (λ n ds. value 0 ds ≡ n) (λ n l. omega arith) (λ n ds l e. omega (arith, value_last 0 ds (48 + n % 10)))

-- a byte that is a digit
abbrev pub Digit : ℕ → Type 0
Digit d = (48 ≤ d) × (d ≤ 57)

pub decimal_digits : (n : ℕ) → n < 10 ^ 10 → Each Digit (decimal n)
decimal_digits =
    by_digit (λ n ds. Each Digit ds) (λ n l. (omega arith, tt)) (λ n ds l e. each_append Digit ds ((48 + n % 10) ∷ []) e (omega arith, tt))

first_last : (ds : List ℕ) (d : ℕ) → 48 < get_or ds 0 48 → 48 < get_or (ds ++ d ∷ []) 0 48
first_last [] d h = absurd (omega arith)
first_last (x ∷ ds) d h = h

pub decimal_first : (n : ℕ) → 0 < n → n < 10 ^ 10 → 48 < get_or (decimal n) 0 48
decimal_first n p h =
    by_digit (λ n ds. 0 < n → 48 < get_or ds 0 48) (λ n l q. omega arith) (λ n ds l e q. first_last ds (48 + n % 10) (e (omega arith))) n h p

-- there are no more than k of the last k digits
short : (k n : ℕ) → length (digits k n) ≤ k
unfolding digits
short zero n = omega arith
short (suc k) n =
    elim (ltb n 10) as (λ v. length (pick v [] (digits k (n / 10)) ++ (48 + n % 10) ∷ []) ≤ suc k) [
      | true ↦ omega arith
      | false ↦ simp length-append (omega (arith, short k (n / 10)))
    ]

pub decimal_short : (n : ℕ) → length (decimal n) ≤ 10
unfolding decimal
decimal_short n = short 10 n

-- one digit, and more than one
pub decimal_one : (n : ℕ) → n < 10 → decimal n ≡ (48 + n % 10) ∷ []
decimal_one n h = rw (as_std n (omega arith), mod_small n h) (decimal_digit n h)

pub decimal_more : (n : ℕ) → 10 ≤ n → n < 10 ^ 10 → decimal n ≡ decimal (n / 10) ++ (48 + n % 10) ∷ []
decimal_more n l h = rw (as_std n h, as_std (n / 10) (omega arith)) (decimal_step n l (omega arith))

pub length_more : (n : ℕ) → 10 ≤ n → n < 10 ^ 10 → length (decimal n) ≡ length (decimal (n / 10)) + 1
length_more n l h = rw (decimal_more n l h) (simp length-append (omega arith))

pub length_one : (n : ℕ) → n < 10 → length (decimal n) ≡ 1
length_one n h = rw (decimal_one n h)
