-- Laws of sums, of least and greatest values, and of the lowest place of the greatest. Assumes nothing.
use mathlib.Core.Path.{◌≡◌, refl, ap}
use mathlib.Core.Bool.{Bool, true, false}
use mathlib.Core.Logic.{inl, inr}
use Prim.Native.Nat.{ℕ, zero, suc, ◌+◌, ◌*◌, ◌-◌, ◌≤◌, ◌<◌, min, max}
use native.Mathlib.Nat.{le_refl, le_of_lt, max-eq_left, max-eq_right}
use native.Mathlib.Decide.{le_ind}
use native.Mathlib.Omega.{arith}
use lib.Dec.{ltb}
use borrow.Author.Tests.{ltb-true, ltb-false, lt-ltb, le-ltb}
use Rattle.ring.specs.Numbers.{pick, one_if, sum, least, greatest, peak}
use Rattle.ring.proofs.Tests.{le_lt, one_if_le}

-- two sums, term by term
module _ (f g : ℕ → ℕ) where
  pub sum_eq : (k : ℕ) → ((i : ℕ) → i < k → f i ≡ g i) → sum f k ≡ sum g k
  unfolding sum
  sum_eq zero h = refl
  sum_eq (suc k) h = omega (arith, sum_eq k (λ i l. h i (omega arith)), h k (omega arith))

  pub sum_add : (k : ℕ) → sum (λ i. f i + g i) k ≡ sum f k + sum g k
  unfolding sum
  sum_add zero = refl
  sum_add (suc k) = omega (arith, sum_add k)

module _ (g : ℕ → ℕ) where
  -- one sum
  sum_up : (k : ℕ) → sum g k ≤ sum g (suc k)
  unfolding sum
  sum_up k = omega arith

  pub sum_mono : (i k : ℕ) → i ≤ k → sum g i ≤ sum g k
  sum_mono i k h = le_ind (λ z. sum g i ≤ sum g z) (le_refl (sum g i)) (λ z p q. omega (arith, sum_up z)) k h

  pub sum_term : (i k : ℕ) → i < k → g i ≤ sum g k
  unfolding sum
  sum_term i k h = omega (arith, sum_mono (suc i) k h)

  pub sum_most : (b k : ℕ) → ((i : ℕ) → i < k → g i ≤ b) → sum g k ≤ k * b
  unfolding sum
  sum_most b zero h = omega arith
  sum_most b (suc k) h = omega (arith, sum_most b k (λ i l. h i (omega arith)), h k (omega arith))

  pub sum_zero : (k : ℕ) → ((i : ℕ) → i < k → g i ≡ 0) → sum g k ≡ 0
  unfolding sum
  sum_zero zero h = refl
  sum_zero (suc k) h = omega (arith, sum_zero k (λ i l. h i (omega arith)), h k (omega arith))

  -- its terms are 0 but for one
  pub sum_at : (l k : ℕ) → l < k → ((i : ℕ) → (i ≡ l → ⊥) → g i ≡ 0) → sum g k ≡ g l
  unfolding sum
  sum_at l zero hl h = absurd (omega arith)
  sum_at l (suc k) hl h =
      elim (le_lt k l) [
        | inl m ↦ let q : l ≡ k = omega arith in omega (arith, ap g q, sum_zero k (λ i n. h i (omega arith)))
        | inr m ↦ omega (arith, sum_at l k m h, h k (omega arith))
      ]

  -- the least and the greatest
  pub least_le : (k i : ℕ) → i ≤ k → least g k ≤ g i
  unfolding least
  least_le zero i h = let e : i ≡ 0 = omega arith in omega (arith, ap g e)
  least_le (suc k) i h =
      elim (le_lt i k) [ inl p ↦ omega (arith, least_le k i p) | inr p ↦ let e : i ≡ suc k = omega arith in omega (arith, ap g e) ]

  pub le_greatest : (k i : ℕ) → i ≤ k → g i ≤ greatest g k
  unfolding greatest
  le_greatest zero i h = let e : i ≡ 0 = omega arith in omega (arith, ap g e)
  le_greatest (suc k) i h =
      elim (le_lt i k) [ inl p ↦ omega (arith, le_greatest k i p) | inr p ↦ let e : i ≡ suc k = omega arith in omega (arith, ap g e) ]

  -- where they are
  pub least_at : (k : ℕ) → (i : ℕ) × (i ≤ k) × (g i ≡ least g k)
  unfolding least
  least_at zero = (0, omega arith, refl)
  least_at (suc k) =
      let (i, p, q) = least_at k in
      elim (le_lt (least g k) (g (suc k))) [ inl h ↦ (i, omega arith, omega arith) | inr h ↦ (suc k, omega arith, omega arith) ]

  -- the lowest place of the greatest is one of the places, has the greatest, and those below it have less
  pub record Peak (k i : ℕ) : Type 0 where
    pub place : i ≤ k
    pub most : g i ≡ greatest g k
    pub lowest : (m : ℕ) → m < i → g m < g i

  pub peak_is : (k : ℕ) → Peak k (peak g k)
  unfolding peak greatest
  peak_is zero = record { place = omega arith; most = refl; lowest = λ m h. absurd (omega arith) }
  peak_is (suc k) = by (peak_is k) (ltb (g (peak g k)) (g (suc k))) refl
    where
      by : Peak k (peak g k) → (t : Bool) → ltb (g (peak g k)) (g (suc k)) ≡ t → Peak (suc k) (pick t (suc k) (peak g k))
      by p true e =
          let l = ltb-true (g (peak g k)) (g (suc k)) e in
          record { place = omega arith; most = omega (arith, p.most); lowest = λ m h. omega (arith, p.most, le_greatest k m (omega arith)) }
      by p false e =
          let l = ltb-false (g (peak g k)) (g (suc k)) e in
          record { place = omega (arith, p.place); most = omega (arith, p.most); lowest = p.lowest }

  pub greatest_at : (k : ℕ) → (i : ℕ) × (i ≤ k) × (g i ≡ greatest g k)
  greatest_at k = let p = peak_is k in (peak g k, p.place, p.most)

-- a property of numbers that each has, the greater has, and the greatest
module _ (P : ℕ → Type 0) where
  pub max_has : (a b : ℕ) → P a → P b → P (max a b)
  max_has a b p q = elim (le_lt a b) [ inl l ↦ rw (max-eq_right l) q | inr l ↦ rw (max-eq_left (le_of_lt l)) p ]

  pub greatest_has : (g : ℕ → ℕ) (k : ℕ) → ((i : ℕ) → i ≤ k → P (g i)) → P (greatest g k)
  greatest_has g k h = let (i, p, e) = greatest_at g k in rw e at (h i p)

-- how many pass a test, of the numbers below k
module _ (p : ℕ → Bool) where
  -- at most j, where none but the first j does
  pub few_pass : (j k : ℕ) → ((m : ℕ) → j ≤ m → m < k → p m ≡ false) → sum (λ m. one_if (p m)) k ≤ min j k
  unfolding sum
  few_pass j zero h = omega arith
  few_pass j (suc k) h =
      let ih = few_pass j k (λ m a b. h m a (omega arith)) in
      elim (le_lt j k) [ inl a ↦ omega (arith, ap one_if (h k a (le_refl (suc k)))) | inr a ↦ omega (arith, one_if_le (p k)) ]

  -- at least j, where the first j do
  pub enough_pass : (j k : ℕ) → ((m : ℕ) → m < j → m < k → p m ≡ true) → min j k ≤ sum (λ m. one_if (p m)) k
  unfolding sum
  enough_pass j zero h = omega arith
  enough_pass j (suc k) h =
      let ih = enough_pass j k (λ m a b. h m a (omega arith)) in
      elim (le_lt j k) [ inl a ↦ omega arith | inr a ↦ omega (arith, ap one_if (h k a (le_refl (suc k)))) ]

pub sum_ones : (k : ℕ) → sum (λ j. 1) k ≡ k
unfolding sum
sum_ones zero = refl
sum_ones (suc k) = omega (arith, sum_ones k)

-- of d, d + 1 .. d + k - 1 so many are below b
pub sum_below : (d b k : ℕ) → sum (λ j. one_if (ltb (d + j) b)) k ≡ min k (b - d)
unfolding sum
sum_below d b zero = omega arith
sum_below d b (suc k) =
    elim (le_lt b (d + k)) [
      | inl l ↦ rw (le-ltb (d + k) b l) (omega (arith, sum_below d b k))
      | inr l ↦ rw (lt-ltb (d + k) b l) (omega (arith, sum_below d b k))
    ]
