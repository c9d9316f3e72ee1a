-- Things with a start and an end that do not overlap take together no more time than there is. Assumes nothing.
use mathlib.Core.Path.{◌≡◌, refl}
use mathlib.Core.List.{List, [], ◌∷◌}
use mathlib.Core.Bool.{Bool, true, false}
use mathlib.Core.Logic.{◌⊎◌, inl, inr}
use Prim.Native.Nat.{ℕ, zero, suc, ◌+◌, ◌*◌, ◌-◌, ◌≤◌, ◌<◌, min}
use native.Mathlib.Omega.{arith}
use lib.Dec.{ltb, leb}
use borrow.Author.Tests.{ltb-true, ltb-false, leb-true, leb-false}
use Rattle.ring.specs.Numbers.{pick, both, one_if}
use Rattle.ring.specs.Lists.{Each, EachTwo, total, count}
use Rattle.ring.proofs.Totals.{each_all, each_map, total_le, total_zero, total_add, total_mul}

module _ {A : Type 0} (p : A → Bool) (from to : A → ℕ) where
  -- two that pass the test do not overlap
  abbrev pub ApartIn : A → A → Type 0
  ApartIn x y = p x ≡ true → p y ≡ true → (to x ≤ from y) ⊎ (to y ≤ from x)

  -- the ticks below t that x takes, and whether it takes tick t
  abbrev taken : ℕ → A → ℕ
  taken t x = pick (p x) (min (to x) t - min (from x) t) 0

  abbrev covers : ℕ → A → Bool
  covers t x = both (p x) (both (leb (from x) t) (ltb t (to x)))

  covers_none : (t : ℕ) (x : A) → p x ≡ true → from x ≤ t → t < to x → (ys : List A) → Each (ApartIn x) ys → count (covers t) ys ≡ 0
  covers_none t x px l₁ l₂ ys h =
      total_zero (λ y. one_if (covers t y)) ys (each_map (λ y a. at y a (p y) refl (leb (from y) t) refl (ltb t (to y)) refl) ys h)
    where
      at : (y : A) → ApartIn x y → (b : Bool) → p y ≡ b → (c : Bool) → leb (from y) t ≡ c → (d : Bool) → ltb t (to y) ≡ d
          → one_if (both b (both c d)) ≡ 0
      at y a true py true e₁ true e₂ = elim (a px py) [ inl l ↦ omega (arith, leb-true, ltb-true) | inr l ↦ omega (arith, leb-true, ltb-true) ]
      at y a false py c e₁ d e₂ = refl
      at y a true py false e₁ d e₂ = refl
      at y a true py true e₁ false e₂ = refl

  covers_one : (t : ℕ) (xs : List A) → EachTwo ApartIn xs → count (covers t) xs ≤ 1
  unfolding total
  covers_one t [] h = omega arith
  covers_one t (x ∷ xs) h = at (p x) refl (leb (from x) t) refl (ltb t (to x)) refl (covers_one t xs h.1)
    where
      at : (b : Bool) → p x ≡ b → (c : Bool) → leb (from x) t ≡ c → (d : Bool) → ltb t (to x) ≡ d → count (covers t) xs ≤ 1
          → one_if (both b (both c d)) + count (covers t) xs ≤ 1
      at true px true e₁ true e₂ ih = omega (arith, covers_none t x px (leb-true _ _ e₁) (ltb-true _ _ e₂) xs h.0)
      at false px c e₁ d e₂ ih = omega arith
      at true px false e₁ d e₂ ih = omega arith
      at true px true e₁ false e₂ ih = omega arith

  taken_step : (t : ℕ) (x : A) → taken (suc t) x ≤ taken t x + one_if (covers t x)
  taken_step t x = at (p x) (leb (from x) t) refl (ltb t (to x)) refl
    where
      at : (b c : Bool) → leb (from x) t ≡ c → (d : Bool) → ltb t (to x) ≡ d
          → pick b (min (to x) (suc t) - min (from x) (suc t)) 0 ≤ pick b (min (to x) t - min (from x) t) 0 + one_if (both b (both c d))
      at false c e₁ d e₂ = omega arith
      at true true e₁ true e₂ = omega (arith, leb-true, ltb-true)
      at true false e₁ d e₂ = omega (arith, leb-false)
      at true true e₁ false e₂ = omega (arith, leb-true, ltb-false)

  pack : (t : ℕ) (xs : List A) → EachTwo ApartIn xs → total (taken t) xs ≤ t
  pack zero xs h = omega (arith, total_zero (taken 0) xs (each_all (λ x. none x (p x)) xs))
    where
      none : (x : A) (b : Bool) → pick b (min (to x) 0 - min (from x) 0) 0 ≡ 0
      none x true = omega arith
      none x false = refl
  pack (suc t) xs h =
      omega (
        arith,
        pack t xs h,
        covers_one t xs h,
        total_add (taken t) (λ x. one_if (covers t x)) xs,
        total_le (taken (suc t)) (λ x. taken t x + one_if (covers t x)) xs (each_all (taken_step t) xs),
      )

  -- those that pass the test and take c ticks or more each, all before tick t
  pub packed : (c t : ℕ) (xs : List A) → EachTwo ApartIn xs → Each (λ x. p x ≡ true → (from x + c ≤ to x) × (to x ≤ t)) xs → count p xs * c ≤ t
  packed c t xs h k =
      omega (
        arith,
        pack t xs h,
        total_mul (λ x. one_if (p x)) c xs,
        total_le (λ x. one_if (p x) * c) (taken t) xs (each_map (λ x f. at x (p x) f) xs k),
      )
    where
      at : (x : A) (b : Bool) → (b ≡ true → (from x + c ≤ to x) × (to x ≤ t)) → one_if b * c ≤ pick b (min (to x) t - min (from x) t) 0
      at x true f = let g = f refl in omega arith
      at x false f = omega arith
