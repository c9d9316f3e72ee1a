-- Lists given place by place, and stretches of columns: their first and their last, one more at either end, two that meet, and a
-- whole round, which has each column once. Assumes nothing.
use mathlib.Core.Path.{◌≡◌, refl, sym, ap, subst, ◌∙◌}
use mathlib.Core.List.{List, [], ◌∷◌, ◌++◌}
use mathlib.Core.Bool.{Bool, true, false}
use Prim.Native.Nat.{ℕ, zero, suc, ◌+◌, ◌-◌, ◌%◌, ◌≤◌, ◌<◌}
use native.Mathlib.Nat.{zero-add, add-zero, mod-add-mod, mod-eq_of_lt, mod-lt, add-mod_right}
use native.Mathlib.Omega.{arith}
use lib.Dec.{eqb}
use lib.ListN.{length, take, drop, length-append}
use lib.Seq.{take_at, drop_at}
use borrow.Author.Tests.{eqb-true, eqb-false, eq-eqb, ne_eqb}
use Rattle.ring.specs.Numbers.{pick, one_if}
use Rattle.ring.specs.Lists.{Each, total, count, joined, up_to}
use Rattle.ring.specs.Columns.{put, stretch}
use Rattle.ring.proofs.Sums.{sum_at}
use Rattle.ring.proofs.Totals.{count_more}
use Rattle.ring.proofs.Joined.{joined_same, joined_add, each_joined, total_joined}

-- what holds of x at place i and of g at every other place
pub put_case : {A : Type 0} (P : ℕ → A → Type 0) (g : ℕ → A) (i : ℕ) (x : A) → P i x → ((j : ℕ) → (j ≡ i → ⊥) → P j (g j)) → (j : ℕ) → P j (put g i x j)
put_case P g i x p q j = go (eqb j i) refl
  where
    go : (b : Bool) → eqb j i ≡ b → P j (pick b x (g j))
    go true e = subst (λ z. P z x) (sym (eqb-true j i e)) p
    go false e = q j (eqb-false j i e)

module _ (g : ℕ → ℕ) where
  pub up_to_length : (k : ℕ) → length (up_to g k) ≡ k
  unfolding joined
  up_to_length zero = refl
  up_to_length (suc k) = omega (arith, length-append (up_to g k) (g k ∷ []), up_to_length k)

  -- the last, and those before it
  short : (k : ℕ) → length (up_to g k) ≡ length (up_to g (suc k)) - 1
  short k = omega (arith, up_to_length k, up_to_length (suc k))

  pub up_to_last : (k : ℕ) → drop (length (up_to g (suc k)) - 1) (up_to g (suc k)) ≡ g k ∷ []
  unfolding joined
  up_to_last k = drop_at (up_to g k) (g k ∷ []) _ (short k)

  pub up_to_init : (k : ℕ) → take (length (up_to g (suc k)) - 1) (up_to g (suc k)) ≡ up_to g k
  unfolding joined
  up_to_init k = take_at (up_to g k) (g k ∷ []) _ (short k)

  -- the first, and those after it
  pub up_to_first : (k : ℕ) → up_to g (suc k) ≡ g 0 ∷ up_to (λ x. g (suc x)) k
  unfolding joined
  up_to_first zero = refl
  up_to_first (suc k) = ap (λ (l : List ℕ). l ++ g (suc k) ∷ []) (up_to_first k)

pub up_to_same : (g h : ℕ → ℕ) (k : ℕ) → ((x : ℕ) → x < k → g x ≡ h x) → up_to g k ≡ up_to h k
up_to_same g h k e = joined_same (λ i. g i ∷ []) (λ i. h i ∷ []) k (λ i l. ap (λ (z : ℕ). z ∷ []) (e i l))

-- stretches of m columns round the ring
module _ (m : ℕ) where
  pub stretch_front : (b k : ℕ) → stretch m b (suc k) ≡ b % m ∷ stretch m (suc b) k
  stretch_front b k =
      up_to_first (λ x. (b + x) % m) k
      ∙ (λ t. ap (λ (z : ℕ). z % m) (add-zero b) t
      ∷ up_to_same (λ x. (b + suc x) % m) (λ x. (suc b + x) % m) k (λ x l. ap (λ (z : ℕ). z % m) (omega arith)) t)

  -- from b, or from any number that is the same mod m
  pub stretch_mod : (b c k : ℕ) → b % m ≡ c % m → stretch m b k ≡ stretch m c k
  stretch_mod b c k e =
      up_to_same (λ x. (b + x) % m) (λ x. (c + x) % m) k
      (λ x l. sym (mod-add-mod b m x) ∙ (ap (λ (z : ℕ). (z + x) % m) e ∙ mod-add-mod c m x))

  -- one stretch after another
  pub stretch_join : (b j k : ℕ) → stretch m b (j + k) ≡ stretch m b j ++ stretch m (b + j) k
  stretch_join b j k =
      joined_add (λ x. (b + x) % m ∷ []) j k
      ∙ ap (λ (l : List ℕ). stretch m b j ++ l) (up_to_same (λ x. (b + (j + x)) % m) (λ x. (b + j + x) % m) k (λ x l. ap (λ (z : ℕ). z % m) (omega arith)))

  -- within the first round
  pub stretch_plain : (b k : ℕ) → ((x : ℕ) → x < k → b + x < m) → stretch m b k ≡ up_to (λ x. b + x) k
  stretch_plain b k h = up_to_same (λ x. (b + x) % m) (λ x. b + x) k (λ x l. mod-eq_of_lt (h x l))

  -- each column of it is below m
  pub stretch_below : 1 ≤ m → (b k : ℕ) → Each (λ x. x < m) (stretch m b k)
  stretch_below some b k = each_joined (λ x. x < m) (λ x. (b + x) % m ∷ []) k (λ x l. (mod-lt (b + x) some, tt))

-- a whole round from b + 1 on is one from b on with its first put last, so as many pass a test
turned : (p : ℕ → Bool) (m b : ℕ) → count p (stretch m (suc b) m) ≡ count p (stretch m b m)
unfolding joined total
turned p zero b = refl
turned p (suc k) b =
    let e : suc b + k ≡ b + suc k = omega arith in
    omega (
      arith,
      count_more p (stretch (suc k) (suc b) k) ((suc b + k) % suc k),
      ap (count p) (stretch_front (suc k) b k),
      ap (λ (x : ℕ). one_if (p x)) (ap (λ (x : ℕ). x % suc k) e ∙ add-mod_right b (suc k)),
    )

-- so it has each of the m columns once
pub stretch_once : (m b c : ℕ) → c < m → count (λ x. eqb x c) (stretch m b m) ≡ 1
unfolding total
stretch_once m zero c h =
    ap (count (λ x. eqb x c)) (up_to_same (λ x. (0 + x) % m) (λ x. x) m (λ x l. rw (zero-add x) (mod-eq_of_lt l)))
    ∙ (total_joined (λ x. one_if (eqb x c)) (λ x. x ∷ []) m
    ∙ (sum_at (λ x. one_if (eqb x c) + 0) c m h (λ x ne. rw (ne_eqb x c ne)) ∙ rw (eq-eqb c c refl)))
stretch_once m (suc b) c h = turned (λ x. eqb x c) m b ∙ stretch_once m b c h
