-- The sends of the plan: so many as there are moves, and in plan order; and the tight link.
use mathlib.Core.Path.{◌≡◌, refl, ap, ◌∙◌}
use mathlib.Core.Logic.{inl, inr}
use Prim.Native.Nat.{ℕ, ◌*◌, ◌-◌, ◌≤◌, ◌<◌}
use native.Mathlib.Omega.{arith}
use lib.IntN.{nat_abs}
use lib.ListN.{length}
use borrow.Author.Tests.{ne_eqb}
use Rattle.ring.specs.Numbers.{sum}
use Rattle.ring.specs.Lists.{EachTwo}
use Rattle.ring.specs.Boards.{Ring, Accepted, TwoWay}
use Rattle.ring.specs.Bytes.{InOrder}
use Rattle.ring.specs.Plan.{f, ahead, behind, carries, plan, link_time, finish_of, moves, tight}
use Rattle.ring.proofs.Tests.{le_lt}
use Rattle.ring.proofs.Sums.{sum_eq, sum_ones, sum_term, le_greatest, Peak, peak_is}
use Rattle.ring.proofs.Totals.{total_length}
use Rattle.ring.proofs.Signed.{size}
use Rattle.ring.proofs.Level.{Fits, one_sign}
use Rattle.ring.proofs.Planned.{two_plan, total_plan}
use Rattle.ring.proofs.Best.{timed}

module _ (r : Ring) (o : ℕ) where
  pub as_many : length (plan r o) ≡ moves r o
  unfolding moves
  as_many = total_length (plan r o) ∙ (total_plan r o (λ s. 1) ∙ sum_eq _ _ r.n (λ i h. sum_ones (carries r o i)))

  pub sizes : moves r o ≡ sum (λ i. nat_abs (f r o i)) r.n
  unfolding moves
  sizes = sum_eq _ _ r.n (λ i h. size (ahead r o i) (behind r o i) (one_sign r o i))

  pub ordered : Accepted r → Fits r o → EachTwo InOrder (plan r o)
  ordered ok fits =
      two_plan r o InOrder
      (λ i j k h l m. inr (refl, inl (omega (arith, (timed r o ok fits).turns i j k h l m, ok.costs i h))))
      (λ i j a b l h lj lb. inl l)

  -- the tight link is the lowest-numbered link with the greatest items × cost, link 0 where there are no moves
  pub tight_is : Peak (link_time r o) (r.n - 1) (tight r o)
  unfolding tight
  tight_is = peak_is (link_time r o) (r.n - 1)

  pub tight_most : (i : ℕ) → i < r.n → link_time r o i ≤ link_time r o (tight r o)
  tight_most i h = omega (arith, tight_is.most, le_greatest (link_time r o) (r.n - 1) i (omega arith))

  pub tight_none : Accepted r → moves r o ≡ 0 → tight r o ≡ 0
  unfolding moves
  tight_none ok e =
      elim (le_lt (tight r o) 0) [
        | inl h ↦ omega arith
        | inr h ↦
            let c : carries r o (tight r o) ≡ 0 = omega (arith, sum_term (carries r o) (tight r o) r.n (omega (arith, ok.boards, tight_is.place))) in
            absurd (omega (arith, tight_is.lowest 0 h, ap (λ (k : ℕ). k * r.cost (tight r o)) c))
      ]

  -- one way it is the finish
  pub tight_finish : (TwoWay r.kind → ⊥) → link_time r o (tight r o) ≡ finish_of r o
  unfolding finish_of
  tight_finish one = rw (ne_eqb r.kind 3 one) tight_is.most
