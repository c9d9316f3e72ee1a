-- Pieces one after the other: when they are the same, the first of them and the others, one of them cut out, what holds of each element and of
-- each two, and what a total over them is. Assumes nothing.
use mathlib.Core.Path.{◌≡◌, refl, ap, ◌∙◌}
use mathlib.Core.List.{List, [], ◌∷◌, ◌++◌, append_assoc, append-nil}
use Prim.Native.Nat.{ℕ, zero, suc, ◌+◌, ◌-◌, ◌≤◌, ◌<◌}
use native.Mathlib.Nat.{add-zero, add-suc}
use native.Mathlib.Omega.{arith}
use lib.ListN.{length, get_or, take, drop, length-append}
use lib.Seq.{take-suc, take_at, drop_at}
use Rattle.ring.specs.Numbers.{sum}
use Rattle.ring.specs.Lists.{Each, EachTwo, total, joined, up_to}
use Rattle.ring.proofs.Totals.{each_append, two_append, total_append}

pub joined_same : {A : Type 0} (g h : ℕ → List A) (k : ℕ) → ((i : ℕ) → i < k → g i ≡ h i) → joined g k ≡ joined h k
unfolding joined
joined_same g h zero e = refl
joined_same g h (suc k) e = λ t. joined_same g h k (λ i l. e i (omega arith)) t ++ e k (omega arith) t

module _ {A : Type 0} (g : ℕ → List A) where
  pub joined_add : (a b : ℕ) → joined g (a + b) ≡ joined g a ++ joined (λ x. g (a + x)) b
  unfolding joined
  joined_add a zero = rw (add-zero, append-nil) refl
  joined_add a (suc b) = rw (add-suc, joined) (ap (λ (l : List A). l ++ g (a + b)) (joined_add a b) ∙ append_assoc (joined g a) (joined (λ x. g (a + x)) b) (g (a + b)))

  module _ (w : ℕ → ℕ) where
    pub joined_length : (k : ℕ) → ((i : ℕ) → i < k → length (g i) ≡ w i) → length (joined g k) ≡ sum w k
    unfolding joined sum
    joined_length zero e = refl
    joined_length (suc k) e = omega (arith, length-append (joined g k) (g k), joined_length k (λ i l. e i (omega arith)), e k (omega arith))

    -- piece i, cut out of k pieces
    pub joined_piece : (k i : ℕ) → i < k → ((j : ℕ) → j < k → length (g j) ≡ w j) → take (w i) (drop (sum w i) (joined g k)) ≡ g i
    unfolding joined
    joined_piece k i h e =
        let later = joined (λ x. g (suc i + x)) (k - suc i) in
        let n : k ≡ suc i + (k - suc i) = omega arith in
        let split : joined g k ≡ joined g i ++ (g i ++ later) = ap (joined g) n ∙ (joined_add (suc i) (k - suc i) ∙ append_assoc (joined g i) (g i) later) in
        rw (split, drop_at (joined g i) (g i ++ later) (sum w i) (joined_length i (λ j l. e j (omega arith)))) (take_at (g i) later (w i) (e i h))

module _ {A : Type 0} where
  pub each_joined : (P : A → Type 0) (g : ℕ → List A) (k : ℕ) → ((i : ℕ) → i < k → Each P (g i)) → Each P (joined g k)
  unfolding joined
  each_joined P g zero h = tt
  each_joined P g (suc k) h = each_append P (joined g k) (g k) (each_joined P g k (λ i l. h i (omega arith))) (h k (omega arith))

  pub two_joined : (P : A → A → Type 0) (g : ℕ → List A) (k : ℕ) → ((i : ℕ) → i < k → EachTwo P (g i))
      → ((i l : ℕ) → i < l → l < k → Each (λ x. Each (P x) (g l)) (g i)) → EachTwo P (joined g k)
  unfolding joined
  two_joined P g zero h c = tt
  two_joined P g (suc k) h c =
      two_append P (joined g k) (g k) (two_joined P g k (λ i l. h i (omega arith)) (λ i l a b. c i l a (omega arith))) (h k (omega arith))
      (each_joined (λ x. Each (P x) (g k)) g k (λ i l. c i k l (omega arith)))

  pub total_joined : (f : A → ℕ) (g : ℕ → List A) (k : ℕ) → total f (joined g k) ≡ sum (λ i. total f (g i)) k
  unfolding joined sum total
  total_joined f g zero = refl
  total_joined f g (suc k) = omega (arith, total_append f (joined g k) (g k), total_joined f g k)

  -- the first k elements of a list, one by one
  pub first_of : (d : A) (k : ℕ) (xs : List A) → k ≤ length xs → take k xs ≡ up_to (λ j. get_or xs j d) k
  unfolding joined
  first_of d zero xs h = refl
  first_of d (suc k) xs h = take-suc xs k d (omega arith) ∙ ap (λ (l : List A). l ++ get_or xs k d ∷ []) (first_of d k xs (omega arith))
