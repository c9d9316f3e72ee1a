-- Levels: what each board adds, the least and the greatest, that none is far from another, and that a level is document 01's S.
use mathlib.Core.Path.{◌≡◌, refl, sym, ap, ◌∙◌}
use mathlib.Core.Logic.{◌⊎◌, inl, inr}
use Prim.Native.Nat.{ℕ, zero, suc, ◌+◌, ◌-◌, ◌≤◌, ◌<◌, max}
use native.Mathlib.Decide.{ℕ_discrete}
use native.Mathlib.Omega.{arith}
use lib.IntN.{ℤ, pos, nat_abs, ◌+ℤ◌, ◌-ℤ◌, +ℤ_assoc}
use lib.Signed.{◌≤ℤ◌}
use Rattle.ring.specs.Numbers.{sum, sum_ℤ}
use Rattle.ring.specs.Boards.{Ring, Accepted, TwoWay, prev}
use Rattle.ring.specs.Plan.{surplus, surplus_size, S, LeastAt, GreatestAt, f, level, low, high, R, ahead, behind, carries, WithinT}
use Rattle.ring.proofs.Tests.{le_lt}
use Rattle.ring.proofs.Neighbours.{prev_below}
use Rattle.ring.proofs.Signed.{regroup, swap, raised, difference, size, raised_order, order_raised}
use Rattle.ring.proofs.Sums.{sum_mono, least_le, le_greatest, least_at, greatest_at}

-- two ways, or one
pub kind_is : (k : ℕ) → TwoWay k ⊎ (TwoWay k → ⊥)
kind_is k = elim (ℕ_discrete k 3) [ yes h ↦ inl h | no h ↦ inr h ]

module _ (r : Ring) where
  pub level_is : (i : ℕ) → i < r.n → level r i + sum r.after (suc i) ≡ sum r.load (suc i) + sum r.after r.n
  unfolding level
  level_is i h = omega (arith, sum_mono r.after (suc i) r.n h)

  -- it is S and what the boards are to end with
  sums : (k : ℕ) → sum_ℤ (surplus r) k +ℤ pos (sum r.after k) ≡ pos (sum r.load k)
  unfolding sum sum_ℤ
  sums zero = refl
  sums (suc k) =
      regroup (sum_ℤ (surplus r) k) (pos (r.load k)) (pos (r.after k)) (pos (sum r.after k))
      ∙ ap (λ (z : ℤ). z +ℤ pos (r.load k)) (sums k)

  pub level_is_S : (i : ℕ) → i < r.n → pos (level r i) ≡ S r i +ℤ pos (sum r.after r.n)
  unfolding level
  level_is_S i h =
      let d : ℕ = sum r.after r.n - sum r.after (suc i) in
      let e : sum r.after (suc i) + d ≡ sum r.after r.n = omega (arith, sum_mono r.after (suc i) r.n h) in
      ap (λ (z : ℤ). z +ℤ pos d) (sym (sums (suc i))) ∙ (+ℤ_assoc (S r i) (pos (sum r.after (suc i))) (pos d) ∙ ap (λ (n : ℕ). S r i +ℤ pos n) e)

  -- so levels stand in the order of the S
  pub level_order : (k i : ℕ) → k < r.n → i < r.n → S r k ≤ℤ S r i → level r k ≤ level r i
  level_order k i m h = order_raised (S r k) (S r i) (sum r.after r.n) (level r k) (level r i) (level_is_S k m) (level_is_S i h)

  S_order : (k i : ℕ) → k < r.n → i < r.n → level r k ≤ level r i → S r k ≤ℤ S r i
  S_order k i m h = raised_order (S r k) (S r i) (sum r.after r.n) (level r k) (level r i) (level_is_S k m) (level_is_S i h)

  -- |surplus|
  pub size_is : (i : ℕ) → surplus_size r i ≡ nat_abs (surplus r i)
  size_is i =
      let x : ℕ = r.load i - r.after i in
      let y : ℕ = r.after i - r.load i in
      let none : (x ≡ 0) ⊎ (y ≡ 0) = elim (le_lt (r.load i) (r.after i)) [ inl h ↦ inl (omega arith) | inr h ↦ inr (omega arith) ] in
      let both : max x y ≡ x + y = omega arith in
      both ∙ size x y none ∙ ap nat_abs (difference x y (r.load i) (r.after i) (omega arith))

  module _ (ok : Accepted r) where
    pub level_step : (i : ℕ) → i < r.n → level r i + r.after i ≡ level r (prev r.n i) + r.load i
    unfolding sum
    level_step zero h =
        let e : suc (r.n - 1) ≡ r.n = omega arith in
        omega (arith, level_is 0 h, level_is (r.n - 1) (omega arith), ap (sum r.load) e, ap (sum r.after) e, ok.balanced)
    level_step (suc i) h = omega (arith, level_is (suc i) h, level_is i (omega arith))

    pub low_le : (i : ℕ) → i < r.n → low r ≤ level r i
    unfolding low
    low_le i h = least_le (level r) (r.n - 1) i (omega arith)

    pub le_high : (i : ℕ) → i < r.n → level r i ≤ high r
    unfolding high
    le_high i h = le_greatest (level r) (r.n - 1) i (omega arith)

    pub low_at : (i : ℕ) × (i < r.n) × (level r i ≡ low r)
    unfolding low
    low_at = let (i, p, q) = least_at (level r) (r.n - 1) in (i, omega (arith, ok.boards), q)

    pub high_at : (i : ℕ) × (i < r.n) × (level r i ≡ high r)
    unfolding high
    high_at = let (i, p, q) = greatest_at (level r) (r.n - 1) in (i, omega (arith, ok.boards), q)

    -- the least S and the greatest are low and high
    pub some_least : (k : ℕ) × LeastAt r k
    some_least = let (k, h, e) = low_at in (k, (h, λ i l. S_order k i h l (omega (arith, low_le i l))))

    pub some_greatest : (m : ℕ) × GreatestAt r m
    some_greatest = let (m, h, e) = high_at in (m, (h, λ i l. S_order i m l h (omega (arith, le_high i l))))

    pub least_is : (k : ℕ) → LeastAt r k → level r k ≡ low r
    least_is k (m, l) = let (b, h, e) = low_at in omega (arith, low_le k m, level_order k b m h (l b h))

    pub greatest_is : (m : ℕ) → GreatestAt r m → level r m ≡ high r
    greatest_is m (h, l) = let (b, k, e) = high_at in omega (arith, le_high m h, level_order b m k h (l b k))

    -- two levels differ by no more than the items of the ring
    pub near : (i k : ℕ) → i < r.n → k < r.n → level r i ≤ level r k + sum r.load r.n
    near i k h m =
        let a = level_is i h in
        let b = level_is k m in
        elim (le_lt i k) [
          | inl p ↦ omega (arith, ok.balanced, sum_mono r.load (suc i) (suc k) (omega arith), sum_mono r.after (suc k) r.n m)
          | inr p ↦ omega (arith, sum_mono r.load (suc i) r.n h, sum_mono r.after (suc k) (suc i) (omega arith))
        ]

    pub spread : R r ≤ sum r.load r.n
    spread = let (i, p, q) = low_at in let (k, s, t) = high_at in omega (arith, near k i s p)

-- what laws of a one-way ring ask of its offset, and those of a two-way ring: that every |f| is at most T
pub record One (r : Ring) (o : ℕ) : Type 0 where
  pub kind : TwoWay r.kind → ⊥
  pub from : o ≡ low r

pub record Two (r : Ring) (o : ℕ) : Type 0 where
  pub kind : r.kind ≡ 3
  pub within : WithinT r o

-- of every kind
abbrev pub Fits : Ring → ℕ → Type 0
Fits r o = Two r o ⊎ One r o

module _ (r : Ring) (o : ℕ) where
  -- f(i), signed, is the level less the offset
  pub f_is : (i : ℕ) → f r o i ≡ pos (level r i) -ℤ pos o
  unfolding ahead behind
  f_is i = difference (level r i - o) (o - level r i) (level r i) o (omega arith)

  -- so it is S(i) less S(k) and d, where the offset is level k and d
  pub f_is_S : (i k d : ℕ) → i < r.n → k < r.n → o ≡ level r k + d → f r o i ≡ S r i -ℤ (S r k +ℤ pos d)
  f_is_S i k d h m e =
      let t : ℤ = pos (sum r.after r.n) in
      f_is i
      ∙ ((λ x. level_is_S r i h x -ℤ (ap pos e ∙ (ap (λ (z : ℤ). z +ℤ pos d) (level_is_S r k m) ∙ swap (S r k) t (pos d))) x)
      ∙ raised (S r i) (S r k +ℤ pos d) t)

  -- f(i) has one sign
  pub one_sign : (i : ℕ) → (ahead r o i ≡ 0) ⊎ (behind r o i ≡ 0)
  unfolding ahead behind
  one_sign i = elim (le_lt (level r i) o) [ inl h ↦ inl (omega arith) | inr h ↦ inr (omega arith) ]

  module _ (ok : Accepted r) where
    -- what the links carry keeps the books of each board, whatever the offset
    pub carried : (i : ℕ) → i < r.n → r.load i + ahead r o (prev r.n i) + behind r o i ≡ r.after i + ahead r o i + behind r o (prev r.n i)
    unfolding ahead behind
    carried i h = omega (arith, level_step r ok i h)

    -- the offset of kinds 1 and 2: no link sends back, and one carries nothing
    module _ (one : One r o) where
      pub none_behind : (i : ℕ) → i < r.n → behind r o i ≡ 0
      unfolding behind
      none_behind i h = omega (arith, one.from, low_le r ok i h)

      pub idle : (i : ℕ) × (i < r.n) × (ahead r o i ≡ 0)
      unfolding ahead
      idle = let (i, p, q) = low_at r ok in (i, p, omega (arith, one.from))

      -- a board keeps one item at least, so of the sends that its link waits for, the link before carries each
      pub ahead_step : (i : ℕ) → i < r.n → ahead r o i + r.after i ≡ ahead r o (prev r.n i) + r.load i
      ahead_step i h = omega (arith, carried i h, none_behind i h, none_behind (prev r.n i) (prev_below r.n i h))

      pub comes : (i j : ℕ) → i < r.n → j ≤ ahead r o i → j - r.load i ≤ ahead r o (prev r.n i)
      comes i j h k = omega (arith, ahead_step i h, ok.afters i h)

      -- no link carries more than R
      pub carries_le : (i : ℕ) → i < r.n → carries r o i ≤ R r
      unfolding ahead
      carries_le i h = omega (arith, one.from, none_behind i h, le_high r ok i h)
