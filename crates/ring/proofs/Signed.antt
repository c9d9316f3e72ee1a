-- Differences of natural numbers as signed numbers, and their order. Assumes nothing.
use mathlib.Core.Path.{◌≡◌, refl, sym, ap, ◌∙◌}
use mathlib.Core.Bool.{Bool, true, false, cond}
use mathlib.Core.Logic.{◌⊎◌, inl, inr}
use Prim.Native.Nat.{ℕ, zero, suc, ◌+◌, ◌-◌, ◌≤◌}
use native.Mathlib.Omega.{arith}
use lib.IntN.{ℤ, pos, negsuc, ◌+ℤ◌, ◌-ℤ◌, neg_ℤ, nat_abs, +ℤ_assoc, +ℤ_comm, +ℤ-neg_ℤ_cancel, -ℤ-+ℤ_cancel}
use lib.Dec.{ltb, leb→le, le→leb}
use lib.Signed.{◌≤ℤ◌, le_z_yes}
use borrow.Author.Tests.{lt-ltb, le-ltb}

-- a number taken off and put on again
pub regroup : (s l a p : ℤ) → (s +ℤ (l -ℤ a)) +ℤ (p +ℤ a) ≡ (s +ℤ p) +ℤ l
regroup s l a p = +ℤ_assoc s (l -ℤ a) (p +ℤ a) ∙ (ap (λ (z : ℤ). s +ℤ z) middle ∙ sym (+ℤ_assoc s p l))
  where
    middle : (l -ℤ a) +ℤ (p +ℤ a) ≡ p +ℤ l
    middle =
        ap (λ (z : ℤ). (l -ℤ a) +ℤ z) (+ℤ_comm p a)
        ∙ (sym (+ℤ_assoc (l -ℤ a) a p) ∙ (ap (λ (z : ℤ). z +ℤ p) (-ℤ-+ℤ_cancel l a) ∙ +ℤ_comm l p))

pub swap : (u v w : ℤ) → (u +ℤ v) +ℤ w ≡ (u +ℤ w) +ℤ v
swap u v w = +ℤ_assoc u v w ∙ (ap (λ (z : ℤ). u +ℤ z) (+ℤ_comm v w) ∙ sym (+ℤ_assoc u w v))

-- what is put on both numbers leaves their difference
pub raised : (a b c : ℤ) → (a +ℤ c) -ℤ (b +ℤ c) ≡ a -ℤ b
raised a b c =
    ap (λ (z : ℤ). z -ℤ (b +ℤ c)) (sym (sym (+ℤ_assoc (a -ℤ b) b c) ∙ ap (λ (z : ℤ). z +ℤ c) (-ℤ-+ℤ_cancel a b))) ∙ +ℤ-neg_ℤ_cancel (a -ℤ b) (b +ℤ c)

-- the difference of two numbers is fixed by what they are to each other
pub difference : (x y a b : ℕ) → x + b ≡ a + y → pos x -ℤ pos y ≡ pos a -ℤ pos b
difference x y a b e =
    sym (+ℤ-neg_ℤ_cancel (pos x -ℤ pos y) (pos b))
    ∙ ap (λ (z : ℤ). z -ℤ pos b) (swap (pos x) (neg_ℤ (pos y)) (pos b) ∙ (ap (λ (n : ℕ). pos n -ℤ pos y) e ∙ +ℤ-neg_ℤ_cancel (pos a) (pos y)))

-- what was taken off is what is missing
pub taken_off : (l z b : ℤ) → b ≡ l -ℤ z → l -ℤ b ≡ z
taken_off l z b e =
    ap (λ (x : ℤ). x -ℤ b) (sym (ap (λ (y : ℤ). y +ℤ z) e ∙ -ℤ-+ℤ_cancel l z) ∙ +ℤ_comm b z) ∙ +ℤ-neg_ℤ_cancel z b

-- the size of a difference of which one side is 0
pub size : (a b : ℕ) → (a ≡ 0) ⊎ (b ≡ 0) → a + b ≡ nat_abs (pos a -ℤ pos b)
size a zero z = omega arith
size a (suc b) (inl z) = rw (z, lt-ltb 0 (suc b) (omega arith)) (omega arith)
size a (suc b) (inr z) = absurd (omega arith)

-- the order: the greater of two numbers is the less and a natural number more
pub gap : (a b : ℤ) → a ≤ℤ b → (d : ℕ) × (b ≡ a +ℤ pos d)
gap (pos a) (pos b) h = let l = leb→le a b h.le in (b - a, ap pos (omega arith))
gap (pos a) (negsuc b) h = absurd h.le
gap (negsuc a) (pos b) h = (b + suc a, rw (le-ltb (b + suc a) (suc a) (omega arith)) (ap pos (omega arith)))
gap (negsuc a) (negsuc b) h =
    let l = leb→le b a h.le in
    (a - b, rw (lt-ltb (a - b) (suc a) (omega arith)) (ap negsuc (omega arith)))

pub gap_le : (a : ℤ) (d : ℕ) → a ≤ℤ (a +ℤ pos d)
gap_le (pos a) d = le_z_yes (le→leb a (a + d) (omega arith))
gap_le (negsuc a) d = go (ltb d (suc a)) refl
  where
    go : (b : Bool) → ltb d (suc a) ≡ b → negsuc a ≤ℤ cond b (negsuc (suc a - suc d)) (pos (d - suc a))
    go true e = le_z_yes (le→leb (suc a - suc d) a (omega arith))
    go false e = le_z_yes tt

-- and natural numbers stand in the order of the numbers that they are when raised
module _ (a b : ℤ) (t x y : ℕ) (p : pos x ≡ a +ℤ pos t) (q : pos y ≡ b +ℤ pos t) where
  pub raised_order : x ≤ y → a ≤ℤ b
  raised_order l = rw e (gap_le a (y - x))
    where
      e : b ≡ a +ℤ pos (y - x)
      e =
          let d : x + (y - x) ≡ y = omega arith in
          sym (+ℤ-neg_ℤ_cancel b (pos t))
          ∙ (ap (λ (z : ℤ). z -ℤ pos t)
          (sym q ∙ (ap pos (sym d) ∙ (ap (λ (z : ℤ). z +ℤ pos (y - x)) p ∙ swap a (pos t) (pos (y - x)))))
          ∙ +ℤ-neg_ℤ_cancel (a +ℤ pos (y - x)) (pos t))

  pub order_raised : a ≤ℤ b → x ≤ y
  order_raised l =
      let (d, e) = gap a b l in
      let s : y ≡ x + d =
      ap nat_abs (q ∙ (ap (λ (z : ℤ). z +ℤ pos t) e ∙ (swap a (pos d) (pos t) ∙ ap (λ (z : ℤ). z +ℤ pos d) (sym p)))) in
      omega arith
