-- What holds of each element of a list and of each two, how many pass a test, and lists given place by place.
use Rattle.std.specs.Prelude.{List, [], ◌∷◌, ◌++◌, ℕ, zero, suc, ◌+◌, Bool, ℤ, pos, get_or, set}
use Rattle.ring.specs.Numbers.{one_if}

-- each of a list
abbrev pub Each : {A : Type 0} → (A → Type 0) → List A → Type 0
Each P [] = Unit {0}
Each P (x ∷ xs) = P x × Each P xs

-- each two of a list, the one that stands first first
abbrev pub EachTwo : {A : Type 0} → (A → A → Type 0) → List A → Type 0
EachTwo P [] = Unit {0}
EachTwo P (x ∷ xs) = Each (P x) xs × EachTwo P xs

-- the sum of a weight over a list
unfoldable pub total : {A : Type 0} → (A → ℕ) → List A → ℕ
total w [] = 0
total w (x ∷ xs) = w x + total w xs

-- how many of a list pass a test
abbrev pub count : {A : Type 0} → (A → Bool) → List A → ℕ
count p xs = total (λ x. one_if (p x)) xs

-- the pieces g 0 .. g (k - 1), one after the other
unfoldable pub joined : {A : Type 0} → (ℕ → List A) → ℕ → List A
joined g zero = []
joined g (suc k) = joined g k ++ g k

-- the values g 0 .. g (k - 1)
abbrev pub up_to : {A : Type 0} → (ℕ → A) → ℕ → List A
up_to g k = joined (λ i. g i ∷ []) k

-- xs with g 0 .. g (k - 1) in its first k places
unfoldable pub fill : {A : Type 0} → (ℕ → A) → ℕ → List A → List A
fill g zero xs = xs
fill g (suc k) xs = set (fill g k xs) k (g k)

-- the elements of a list of numbers, by place
abbrev pub each : List ℕ → ℕ → ℕ
each xs i = get_or xs i 0

-- the same of signed numbers
abbrev pub each_ℤ : List ℤ → ℕ → ℤ
each_ℤ xs i = get_or xs i (pos 0)
