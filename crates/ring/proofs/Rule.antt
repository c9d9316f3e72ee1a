-- Kinds 1 and 2: the ends and the starts of the plan's sends keep document 01's rule, since fewer than n links back is one that
-- carries nothing.
use mathlib.Core.Path.{◌≡◌, ap, subst}
use mathlib.Core.Logic.{◌⊎◌, inl, inr}
use Prim.Native.Nat.{ℕ, zero, suc, ◌+◌, ◌-◌, ◌≤◌, ◌<◌, max}
use native.Mathlib.Omega.{arith}
use borrow.Author.Tests.{ne_eqb}
use Rattle.ring.specs.Boards.{Ring, Accepted, prev}
use Rattle.ring.specs.Schedule.{ends}
use Rattle.ring.specs.Plan.{ahead, ends_after, end_back, end_of, start_of, send_of}
use Rattle.ring.proofs.Tests.{le_lt}
use Rattle.ring.proofs.Neighbours.{prev_below}
use Rattle.ring.proofs.Level.{One, idle, comes}
use Rattle.ring.proofs.Steady.{ends_same}
use Rattle.ring.proofs.Ends.{back_zero}

module _ (r : Ring) (o : ℕ) (ok : Accepted r) (one : One r o) where
  -- link i is one of the first d links after link b, round the ring
  abbrev Reach : ℕ → ℕ → ℕ → Type 0
  Reach b d i = ((b ≤ i) × (i ≤ b + d)) ⊎ (i + r.n ≤ b + d)

  -- what holds of a link that carries nothing, and of a link after one of which it holds, holds of each after n − 1 steps or fewer
  module _
      (P : ℕ → ℕ → Type 0)
      (base : (d i : ℕ) → i < r.n → ahead r o i ≡ 0 → P d i)
      (step : (d i : ℕ) → i < r.n → P d (prev r.n i) → P (suc d) i)
    where
      reached : (b d i : ℕ) → b < r.n → ahead r o b ≡ 0 → i < r.n → Reach b d i → P d i
      reached b zero i p z h (inl (s, t)) = let e : b ≡ i = omega arith in base 0 i h (omega (arith, ap (ahead r o) e))
      reached b zero i p z h (inr s) = absurd (omega arith)
      reached b (suc d) zero p z h (inl (s, t)) = let e : b ≡ 0 = omega arith in base (suc d) 0 h (omega (arith, ap (ahead r o) e))
      reached b (suc d) zero p z h (inr s) = step d 0 h (reached b d (r.n - 1) p z (omega arith) (inl (omega arith)))
      reached b (suc d) (suc i) p z h (inl (s, t)) =
          elim (le_lt b i) [
            | inl m ↦ step d (suc i) h (reached b d i p z (omega arith) (inl (omega arith)))
            | inr m ↦ let e : b ≡ suc i = omega arith in base (suc d) (suc i) h (omega (arith, ap (ahead r o) e))
          ]
      reached b (suc d) (suc i) p z h (inr s) = step d (suc i) h (reached b d i p z (omega arith) (inr (omega arith)))

      pub round : (i : ℕ) → i < r.n → P (r.n - 1) i
      round i h =
          let (b, p, z) = idle r o ok one in
          reached b (r.n - 1) i p z h (elim (le_lt b i) [ inl m ↦ inl (omega arith) | inr m ↦ inr (omega arith) ])

  -- to ask one link further back changes no end, where n − 1 links are asked
  enough : (i : ℕ) → i < r.n → (j : ℕ) → j ≤ ahead r o i → end_back r (suc (r.n - 1)) i j ≡ end_back r (r.n - 1) i j
  unfolding end_back
  enough =
      round (λ d i. (j : ℕ) → j ≤ ahead r o i → end_back r (suc d) i j ≡ end_back r d i j)
      (λ d i h z j k. let e : j ≡ 0 = omega arith in rw e (omega (arith, back_zero r ok (suc d) i, back_zero r ok d i)))
      (λ d i h same j k.
      ends_same (end_back r (suc d) (prev r.n i)) (end_back r d (prev r.n i)) (r.cost i) (r.load i) j
      (λ m b. same (m - r.load i) (comes r o ok one i m h (omega arith))))

  -- the rule of the plan, of the ends
  abbrev EndRule : ℕ → ℕ → ℕ → Type 0
  EndRule d i j = end_back r d i (suc j) ≡ max (end_back r d i j) (end_back r d (prev r.n i) (suc j - r.load i)) + r.cost i

  rule_at : (d i j : ℕ) → end_back r (suc d) (prev r.n i) (suc j - r.load i) ≡ end_back r d (prev r.n i) (suc j - r.load i) → EndRule (suc d) i j
  unfolding end_back ends_after
  rule_at d i j same = omega arith

  pub end_rule : (i j : ℕ) → i < r.n → suc j ≤ ahead r o i → EndRule r.n i j
  end_rule i j h k =
      subst (λ d. EndRule d i j) (omega arith)
      (rule_at (r.n - 1) i j (enough (prev r.n i) (prev_below r.n i h) (suc j - r.load i) (comes r o ok one i (suc j) h k)))

  pub start_is : (i j : ℕ) → start_of r o i j ≡ end_of r i j - r.cost i
  unfolding start_of
  start_is i j = rw (ne_eqb r.kind 3 one.kind)

  pub start_rule : (i j : ℕ) → i < r.n → suc j ≤ ahead r o i → start_of r o i (suc j) ≡ max (end_of r i j) (end_of r (prev r.n i) (suc j - r.load i))
  start_rule i j h k = omega (arith, start_is i (suc j), end_rule i j h k)

  pub ends_is : (i j : ℕ) → i < r.n → suc j ≤ ahead r o i → ends r (send_of r o i (suc j)) ≡ end_of r i (suc j)
  ends_is i j h k = omega (arith, start_is i (suc j), end_rule i j h k)
