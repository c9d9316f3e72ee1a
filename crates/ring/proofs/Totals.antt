-- Laws of what holds of each element of a list and of each two, of totals and of counts. Assumes nothing.
use mathlib.Core.Path.{◌≡◌, refl, sym, ap, ◌∙◌}
use mathlib.Core.List.{List, [], ◌∷◌, ◌++◌}
use mathlib.Core.Bool.{Bool, true, false}
use mathlib.Core.Logic.{◌⊎◌, inl, inr}
use Prim.Native.Nat.{ℕ, zero, suc, ◌+◌, ◌*◌, ◌≤◌}
use native.Mathlib.Omega.{arith}
use lib.Dec.{eqb, ltb}
use lib.ListN.{length}
use borrow.Author.Tests.{le-ltb}
use Rattle.ring.specs.Numbers.{both, one_if, sum}
use Rattle.ring.specs.Lists.{Each, EachTwo, total, count}
use Rattle.ring.proofs.Tests.{both_with, both_without, one_more}

module _ {A : Type 0} where
  -- each
  pub each_all : {P : A → Type 0} → ((x : A) → P x) → (xs : List A) → Each P xs
  each_all f [] = tt
  each_all f (x ∷ xs) = (f x, each_all f xs)

  pub each_map : {P Q : A → Type 0} → ((x : A) → P x → Q x) → (xs : List A) → Each P xs → Each Q xs
  each_map f [] h = tt
  each_map f (x ∷ xs) h = (f x h.0, each_map f xs h.1)

  pub each_map₂ : {P Q R : A → Type 0} → ((x : A) → P x → Q x → R x) → (xs : List A) → Each P xs → Each Q xs → Each R xs
  each_map₂ f [] h k = tt
  each_map₂ f (x ∷ xs) h k = (f x h.0 k.0, each_map₂ f xs h.1 k.1)

  pub each_append : (P : A → Type 0) (xs ys : List A) → Each P xs → Each P ys → Each P (xs ++ ys)
  each_append P [] ys h k = k
  each_append P (x ∷ xs) ys h k = (h.0, each_append P xs ys h.1 k)

  -- each two
  pub two_map : {K : A → Type 0} {P Q : A → A → Type 0} → ((x y : A) → K x → K y → P x y → Q x y) → (xs : List A) → Each K xs → EachTwo P xs
      → EachTwo Q xs
  two_map f [] k h = tt
  two_map f (x ∷ xs) k h = (each_map₂ (λ y ky p. f x y k.0 ky p) xs k.1 h.0, two_map f xs k.1 h.1)

  pub two_append : (P : A → A → Type 0) (xs ys : List A) → EachTwo P xs → EachTwo P ys → Each (λ x. Each (P x) ys) xs → EachTwo P (xs ++ ys)
  two_append P [] ys h k c = k
  two_append P (x ∷ xs) ys h k c = (each_append (P x) xs ys h.0 c.0, two_append P xs ys h.1 k c.1)

  -- totals
  pub total_eq : (f g : A → ℕ) (xs : List A) → Each (λ x. f x ≡ g x) xs → total f xs ≡ total g xs
  unfolding total
  total_eq f g [] h = refl
  total_eq f g (x ∷ xs) h = omega (arith, total_eq f g xs h.1)

  pub total_le : (f g : A → ℕ) (xs : List A) → Each (λ x. f x ≤ g x) xs → total f xs ≤ total g xs
  unfolding total
  total_le f g [] h = omega arith
  total_le f g (x ∷ xs) h = omega (arith, total_le f g xs h.1)

  pub total_zero : (f : A → ℕ) (xs : List A) → Each (λ x. f x ≡ 0) xs → total f xs ≡ 0
  unfolding total
  total_zero f [] h = refl
  total_zero f (x ∷ xs) h = omega (arith, total_zero f xs h.1)

  pub total_add : (f g : A → ℕ) (xs : List A) → total (λ x. f x + g x) xs ≡ total f xs + total g xs
  unfolding total
  total_add f g [] = refl
  total_add f g (x ∷ xs) = omega (arith, total_add f g xs)

  pub total_split : (f g h : A → ℕ) (xs : List A) → Each (λ x. f x ≡ g x + h x) xs → total f xs ≡ total g xs + total h xs
  total_split f g h xs e = total_eq f (λ x. g x + h x) xs e ∙ total_add g h xs

  pub total_mul : (f : A → ℕ) (c : ℕ) (xs : List A) → total (λ x. f x * c) xs ≡ total f xs * c
  unfolding total
  total_mul f c [] = omega arith
  total_mul f c (x ∷ xs) = omega (arith, total_mul f c xs)

  pub total_append : (f : A → ℕ) (xs ys : List A) → total f (xs ++ ys) ≡ total f xs + total f ys
  unfolding total
  total_append f [] ys = omega arith
  total_append f (x ∷ xs) ys = omega (arith, total_append f xs ys)

  pub total_length : (xs : List A) → length xs ≡ total (λ x. 1) xs
  unfolding total
  total_length [] = refl
  total_length (x ∷ xs) = omega (arith, total_length xs)

  -- a sum of totals is the total of the sums
  pub sum_total : (f : ℕ → A → ℕ) (k : ℕ) (xs : List A) → sum (λ i. total (f i) xs) k ≡ total (λ x. sum (λ i. f i x) k) xs
  unfolding sum
  sum_total f zero xs = sym (total_zero _ xs (each_all (λ x. refl) xs))
  sum_total f (suc k) xs = omega (arith, sum_total f k xs, total_add (λ x. sum (λ i. f i x) k) (f k) xs)

  -- counts: a second test that each passes; none passes, or what each that passes gives
  pub count_with : (p q : A → Bool) (xs : List A) → Each (λ x. q x ≡ true) xs → count (λ x. both (p x) (q x)) xs ≡ count p xs
  count_with p q xs h = total_eq _ _ xs (each_map (λ x e. ap one_if (both_with (p x) (q x) e)) xs h)

  pub count_all : (p : A → Bool) (xs : List A) → count (λ x. both (p x) true) xs ≡ count p xs
  count_all p xs = count_with p (λ x. true) xs (each_all (λ x. refl) xs)

  pub count_some : (p : A → Bool) (m : ℕ) (xs : List A) → Each (λ x. p x ≡ true → 1 ≤ m) xs → (count p xs ≡ 0) ⊎ (1 ≤ m)
  unfolding total
  count_some p m [] h = inl refl
  count_some p m (x ∷ xs) h = go (p x) refl (count_some p m xs h.1)
    where
      go : (b : Bool) → p x ≡ b → (count p xs ≡ 0) ⊎ (1 ≤ m) → (one_if b + count p xs ≡ 0) ⊎ (1 ≤ m)
      go true e k = inr (h.0 e)
      go false e (inl k) = inl (omega arith)
      go false e (inr k) = inr k

-- those before t + 1 are those before t and those at t
pub count_step : {A : Type 0} (p : A → Bool) (when : A → ℕ) (t : ℕ) (xs : List A)
    → count (λ x. both (p x) (ltb (when x) (suc t))) xs ≡ count (λ x. both (p x) (ltb (when x) t)) xs + count (λ x. both (p x) (eqb (when x) t)) xs
count_step p when t xs = total_split _ _ _ xs (each_all (λ x. one_more t (p x) (when x)) xs)

pub count_none : {A : Type 0} (p : A → Bool) (when : A → ℕ) (xs : List A) → count (λ x. both (p x) (ltb (when x) 0)) xs ≡ 0
count_none p when xs = total_zero _ xs (each_all (λ x. ap one_if (both_without (p x) (ltb (when x) 0) (le-ltb (when x) 0 (omega arith)))) xs)

-- a part of a list, and one more
pub count_part : {A : Type 0} (p : A → Bool) (xs ys zs : List A) → xs ++ ys ≡ zs → count p xs ≤ count p zs
count_part p xs ys zs e = omega (arith, total_append (λ x. one_if (p x)) xs ys, ap (count p) e)

pub count_more : {A : Type 0} (p : A → Bool) (xs : List A) (x : A) → count p (xs ++ x ∷ []) ≡ count p xs + one_if (p x)
unfolding total
count_more p xs x = omega (arith, total_append (λ y. one_if (p y)) xs (x ∷ []))
