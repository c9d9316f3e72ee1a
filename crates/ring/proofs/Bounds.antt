-- How large the numbers of an accepted ring can be.
use mathlib.Core.Logic.{inl, inr}
use Prim.Native.Nat.{ℕ, ◌*◌, ◌-◌, ◌≤◌, ◌<◌}
use native.Mathlib.Nat.{mul-le-mul, le_trans}
use native.Mathlib.Omega.{arith}
use borrow.Author.Tests.{eq-eqb, ne_eqb}
use Rattle.ring.specs.Numbers.{sum}
use Rattle.ring.specs.Boards.{Ring, Accepted, most_load, most_cost}
use Rattle.ring.specs.Plan.{carries, surplus_size, rounds, moves, link_time, finish_of}
use Rattle.ring.proofs.Sums.{sum_term, sum_most, greatest_has}
use Rattle.ring.proofs.Level.{Fits, carries_le, spread}

module _ (r : Ring) (ok : Accepted r) where
  -- the items of the ring, and the rounds against them
  pub items_most : sum r.load r.n ≤ 128 * most_load
  items_most = omega (arith, ok.boards, sum_most r.load most_load r.n (λ i h. (ok.loads i h).1))

  pub rounds_most : rounds r ≤ sum r.load r.n
  unfolding rounds
  rounds_most =
      let g = greatest_has (λ x. x ≤ sum r.load r.n) (surplus_size r) (r.n - 1) one_board in
      omega (arith, spread r ok)
    where
      one_board : (i : ℕ) → i ≤ r.n - 1 → surplus_size r i ≤ sum r.load r.n
      one_board i l =
          let h : i < r.n = omega (arith, ok.boards) in
          omega (arith, ok.balanced, sum_term r.load i r.n h, sum_term r.after i r.n h)

  -- so many items, each at the highest cost
  time_most : (m i : ℕ) → i < r.n → m ≤ sum r.load r.n → m * r.cost i ≤ 128 * most_load * most_cost
  time_most m i h l = mul-le-mul {n₁ = m} {m₁ = r.cost i} {n₂ = 128 * most_load} {m₂ = most_cost} (le_trans l items_most) (ok.costs i h).1

  -- what an offset gives: the items of a link, all of them, and the finish
  module _ (o : ℕ) (fits : Fits r o) where
    pub carries_most : (i : ℕ) → i < r.n → carries r o i ≤ sum r.load r.n
    carries_most i h = elim fits [ inl two ↦ le_trans (two.within i h) rounds_most | inr one ↦ le_trans (carries_le r o ok one i h) (spread r ok) ]

    pub moves_most : moves r o ≤ 128 * (128 * most_load)
    unfolding moves
    moves_most = omega (arith, ok.boards, sum_most (carries r o) (128 * most_load) r.n (λ i h. le_trans (carries_most i h) items_most))

    pub finish_most : finish_of r o ≤ 128 * most_load * most_cost
    unfolding finish_of
    finish_most =
        elim fits [
          | inl two ↦ rw (eq-eqb r.kind 3 two.kind) (time_most (rounds r) 0 (omega (arith, ok.boards)) rounds_most)
          | inr one ↦
              rw (ne_eqb r.kind 3 one.kind)
              (greatest_has (λ x. x ≤ 128 * most_load * most_cost) (link_time r o) (r.n - 1)
              (λ i l. let h : i < r.n = omega (arith, ok.boards) in time_most (carries r o i) i h (carries_most i h)))
        ]
