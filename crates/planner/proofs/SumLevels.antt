-- The levels of a ring as sums: each is the total of the loads and the surpluses so far. Assumes nothing.
use Rattle.std.proofs.Common.{◌≡◌, sym, ap, subst, ◌∙◌, List, ℕ, zero, suc, ◌+◌, ◌-◌, ◌≤◌, ◌<◌, min, max, le_refl, arith, ℤ, pos, nat_abs, ◌+ℤ◌, take, drop}
use lib.IntN.{+ℤ_assoc}
use lib.Seq.{drop-cons}
use Rattle.ring.specs.Numbers.{sum, sum_ℤ, least, greatest}
use Rattle.ring.specs.Lists.{each, each_ℤ}
use Rattle.ring.specs.Boards.{ring_in}
use Rattle.ring.specs.Plan.{level, low, high}
use Rattle.ring.proofs.Sums.{least_le, le_greatest}
use Rattle.planner.specs.declared.sums.Span.{Span}
use Rattle.planner.specs.Lent.{Lent}
use Rattle.planner.specs.Levels.{Leads, before, Levels}
use Rattle.planner.specs.Outline.{span_of}
use Rattle.planner.proofs.Raising.{under, leads, few, total_is, last_level}

-- where f begins with one more than g, the least and the greatest are those of the first and of g
module _ (f g : ℕ → ℕ) where
  least_first : (k : ℕ) → ((i : ℕ) → i ≤ k → f (suc i) ≡ g i) → least f (suc k) ≡ min (f 0) (least g k)
  unfolding least
  least_first zero h = omega (arith, h 0 (omega arith))
  least_first (suc k) h = omega (arith, least_first k (λ i l. h i (omega arith)), h (suc k) (omega arith))

  greatest_first : (k : ℕ) → ((i : ℕ) → i ≤ k → f (suc i) ≡ g i) → greatest f (suc k) ≡ max (f 0) (greatest g k)
  unfolding greatest
  greatest_first zero h = omega (arith, h 0 (omega arith))
  greatest_first (suc k) h = omega (arith, greatest_first k (λ i l. h i (omega arith)), h (suc k) (omega arith))

-- before board 0 it is the total
pub before_first : (total : ℕ) (surpluses : List ℤ) → before total surpluses 0 ≡ total
unfolding sum_ℤ
before_first total surpluses = omega arith

-- the surpluses of `Levels` lead on, one after the other
module _ {n total : ℕ} {surpluses : List ℤ} (l : Levels n total surpluses) where
  pub step : (k : ℕ) → k < n → pos (before total surpluses (suc k)) ≡ pos (before total surpluses k) +ℤ each_ℤ surpluses k
  unfolding sum_ℤ
  step k h =
      let s = each_ℤ surpluses k in
      l.whole (suc k) h ∙ sym (+ℤ_assoc (pos total) (sum_ℤ (each_ℤ surpluses) k) s) ∙ ap (λ (z : ℤ). z +ℤ s) (sym (l.whole k (omega arith)))

  from : (m k : ℕ) → k + m ≡ n → Leads (before total surpluses k) (take m (drop k surpluses))
  from zero k e = l.few k (omega arith)
  from (suc m) k e =
      let h : k < n = omega arith in
      let rises : nat_abs (pos (before total surpluses k) +ℤ each_ℤ surpluses k) ≡ before total surpluses (suc k) = ap nat_abs (sym (step k h)) in
      rw (drop-cons surpluses k (pos 0) (omega (arith, l.long)))
      (l.few k (omega arith), (rw rises (step k h), rw rises (from m (suc k) (omega arith))))

  pub leads_on : Leads total (take n surpluses)
  leads_on = subst (λ (x : ℕ). Leads x (take n surpluses)) (before_first total surpluses) (from n 0 (omega arith))

module _ {kind n : ℕ} {loads : List ℕ} {surpluses : List ℤ} {costs : List ℕ} (lent : Lent kind n loads surpluses costs) where
  raised : (k : ℕ) → k ≤ n → pos (sum (each loads) n) +ℤ sum_ℤ (each_ℤ surpluses) k ≡ pos (under (ring_in kind n loads surpluses costs) k)
  unfolding sum_ℤ
  raised zero h = ap pos (omega (arith, total_is lent))
  raised (suc k) h =
      let s = each_ℤ surpluses k in
      sym (+ℤ_assoc (pos (sum (each loads) n)) (sum_ℤ (each_ℤ surpluses) k) s) ∙ ap (λ (z : ℤ). z +ℤ s) (raised k (omega arith)) ∙ sym (leads lent k h)

  pub levels : Levels n (sum (each loads) n) surpluses
  levels =
      record {
        long = lent.surpluses_long;
        whole = λ k h. ap (λ (z : ℤ). pos (nat_abs z)) (raised k h) ∙ sym (raised k h);
        few = λ k h. omega (arith, ap nat_abs (raised k h), few lent k h);
      }

  pub level_is : (i : ℕ) → i < n → before (sum (each loads) n) surpluses (suc i) ≡ level (ring_in kind n loads surpluses costs) i
  unfolding level
  level_is i h = ap nat_abs (raised (suc i) h)

  -- from the last link on to the last link again: the least and the greatest of all
  pub span_is : ◌≡◌ {A = Span} (record { low = least (before (sum (each loads) n) surpluses) n; high = greatest (before (sum (each loads) n) surpluses) n }) (span_of (ring_in kind n loads surpluses costs))
  unfolding low high
  span_is =
      let r = ring_in kind n loads surpluses costs in
      let b = before (sum (each loads) n) surpluses in
      let k : ℕ = n - 1 in
      let e : n ≡ suc k = omega (arith, lent.accepted.boards) in
      let is : (i : ℕ) → i ≤ k → b (suc i) ≡ level r i = λ i h. level_is i (omega arith) in
      let last : b 0 ≡ level r k = before_first (sum (each loads) n) surpluses ∙ last_level lent in
      let a : least b n ≡ least (level r) k = ap (least b) e ∙ omega (arith, least_first b (level r) k is, last, least_le (level r) k k (le_refl k)) in
      let z : greatest b n ≡ greatest (level r) k = ap (greatest b) e ∙ omega (arith, greatest_first b (level r) k is, last, le_greatest (level r) k k (le_refl k)) in
      λ t. record { low = a t; high = z t }
