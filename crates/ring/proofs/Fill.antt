-- A list whose first places are filled: its length, its elements, and when two are the same. Assumes nothing.
use mathlib.Core.Path.{◌≡◌, refl, sym, ap, ◌∙◌}
use mathlib.Core.Bool.{Bool, true, false}
use mathlib.Core.List.{List}
use Prim.Native.Nat.{ℕ, zero, suc, ◌≤◌, ◌<◌}
use native.Mathlib.Omega.{arith}
use lib.Dec.{eqb, ltb}
use lib.ListN.{length, get_or, set, take, length-set}
use lib.Seq.{get_or-set_same, get_or-set_other, set-set, set_comm, set-get_or, length-take-le, get_or-take, ext_get_or}
use borrow.Author.Tests.{ltb-true, ltb-false, eqb-true, eqb-false}
use Rattle.ring.specs.Lists.{fill}

module _ {A : Type 0} (g : ℕ → A) (xs : List A) (d : A) where
  pub fill_length : (k : ℕ) → length (fill g k xs) ≡ length xs
  unfolding fill
  fill_length zero = refl
  fill_length (suc k) = length-set (fill g k xs) k (g k) ∙ fill_length k

  pub fill_at : (k i : ℕ) → i < k → k ≤ length xs → get_or (fill g k xs) i d ≡ g i
  unfolding fill
  fill_at zero i h l = absurd (omega arith)
  fill_at (suc k) i h l = by (λ q. fill_at k i q (omega arith)) (ltb i k) refl
    where
      by : (i < k → get_or (fill g k xs) i d ≡ g i) → (t : Bool) → ltb i k ≡ t → get_or (set (fill g k xs) k (g k)) i d ≡ g i
      by r true p = let q = ltb-true i k p in get_or-set_other (fill g k xs) k i (g k) d (λ e. omega arith) ∙ r q
      by r false p =
          let q : i ≡ k = omega (arith, ltb-false i k p) in
          rw q (get_or-set_same (fill g k xs) k (g k) d (omega (arith, fill_length k)))

-- the first places, filled from a list, hold that list
pub fill_front : {A : Type 0} (ys : List A) (d : A) (xs : List A) (n : ℕ) → length ys ≡ n → n ≤ length xs → take n (fill (λ i. get_or ys i d) n xs) ≡ ys
fill_front ys d xs n long fits =
    let g : ℕ → _ = λ i. get_or ys i d in
    let front : length (take n (fill g n xs)) ≡ n = length-take-le n (fill g n xs) (omega (arith, fill_length g xs d n)) in
    ext_get_or d (take n (fill g n xs)) ys (front ∙ sym long)
    (λ i h. get_or-take n (fill g n xs) i d (omega (arith, front)) ∙ fill_at g xs d n i (omega (arith, front)) fits)

-- two functions agree below n
pub record Below {A : Type 0} (f g : ℕ → A) (n : ℕ) : Type 0 where
  pub at : (i : ℕ) → i < n → f i ≡ g i

pub less : {A : Type 0} (f g : ℕ → A) (k : ℕ) → Below f g (suc k) → Below f g k
less f g k b = record { at = λ i h. b.at i (omega arith) }

pub fill_same : {A : Type 0} (f g : ℕ → A) (n : ℕ) (xs : List A) → Below f g n → fill f n xs ≡ fill g n xs
unfolding fill
fill_same f g zero xs b = refl
fill_same f g (suc k) xs b = λ t. set (fill_same f g k xs (less f g k b) t) k (b.at k (omega arith) t)

-- a list that holds the values already
pub fill_self : (g : ℕ → ℕ) (n : ℕ) (xs : List ℕ) → ((i : ℕ) → i < n → g i ≡ get_or xs i 0) → fill g n xs ≡ xs
unfolding fill
fill_self g zero xs h = refl
fill_self g (suc k) xs h = (λ t. set (fill_self g k xs (λ i l. h i (omega arith)) t) k (h k (omega arith) t)) ∙ set-get_or xs k 0

-- one place of those filled is changed
pub fill_set : (g h : ℕ → ℕ) (at : ℕ) → ((i : ℕ) → (i ≡ at → ⊥) → g i ≡ h i) → (n : ℕ) (xs : List ℕ) → at < n → set (fill g n xs) at (h at) ≡ fill h n xs
unfolding fill
fill_set g h at e zero xs l = absurd (omega arith)
fill_set g h at e (suc k) xs l = by (λ q. fill_set g h at e k xs q) (eqb at k) refl
  where
    by : (at < k → set (fill g k xs) at (h at) ≡ fill h k xs) → (t : Bool) → eqb at k ≡ t → set (set (fill g k xs) k (g k)) at (h at) ≡ set (fill h k xs) k (h k)
    by more true p =
        let q : at ≡ k = eqb-true at k p in
        rw q (set-set (fill g k xs) k (g k) (h k) ∙ ap (λ (l : List ℕ). set l k (h k)) (fill_same g h k xs (record { at = λ i m. e i (λ z. omega arith) })))
    by more false p =
        let ne : at ≡ k → ⊥ = eqb-false at k p in
        set_comm (fill g k xs) k at (g k) (h at) (λ z. ne (sym z)) ∙ (λ t. set (more (omega arith) t) k (e k (λ z. ne (sym z)) t))
