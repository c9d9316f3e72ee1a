-- Document 02, order 3, for every accepted ring of kinds 1, 2 and 3, over the definitions of specs/ alone: what the tight link tells a user. That it is
-- the lowest-numbered link with the greatest items × cost is on the page of the plan's other rules (Demand3, `tight_greatest`, `tight_lowest`).
use mathlib.Core.Path.{◌≡◌, refl, ap}
use mathlib.Core.List.{List}
use mathlib.Core.Logic.{inl, inr}
use Prim.Native.Nat.{ℕ, ◌*◌, ◌≤◌, ◌<◌}
use native.Mathlib.Nat.{mul-le-mul_right}
use native.Mathlib.Omega.{arith}
use Rattle.ring.specs.Boards.{Ring, Accepted, TwoWay, OneCost}
use Rattle.ring.specs.Schedule.{Send, Valid, finish}
use Rattle.ring.specs.Plan.{level, low, high, offset, ahead, behind, carries, plan, link_time, tight}
use Rattle.ring.proofs.Tests.{le_lt}
use Rattle.ring.proofs.Demand3.{none_sooner, tight_below, tight_greatest, tight_lowest, tight_holds}

-- a ring whose links have other costs
abbrev costing : Ring → (ℕ → ℕ) → Ring
costing r cost = record { kind = r.kind; n = r.n; load = r.load; after = r.after; cost = cost }

-- its links carry what they carried
carries_stays : (r : Ring) (cost : ℕ → ℕ) (i : ℕ) → carries (costing r cost) (offset (costing r cost)) i ≡ carries r (offset r) i
unfolding level low high offset ahead behind
carries_stays r cost i = refl

module _ (r : Ring) (ok : Accepted r) where
  -- "In case A a customer upgraded link 0 and the finish stayed at 9; link 1 holds the ring up.": in kinds 1 and 2 no valid schedule ends sooner than
  -- the plan, whatever the links cost, while the tight link keeps its cost
  pub holds_up : (TwoWay r.kind → ⊥) → (cost : ℕ → ℕ) → cost (tight r (offset r)) ≡ r.cost (tight r (offset r)) →
      let q : Ring = record { kind = r.kind; n = r.n; load = r.load; after = r.after; cost = cost } in
      Accepted q → (σ : List Send) → Valid q σ → finish r (plan r (offset r)) ≤ finish q σ
  holds_up one cost kept accepted σ v =
      let q = costing r cost in
      let k = tight r (offset r) in
      let same : link_time q (offset q) k ≡ link_time r (offset r) k = λ t. carries_stays r cost k t * kept t in
      omega (
        arith,
        tight_holds r ok one,
        same,
        tight_greatest q accepted k (tight_below r ok),
        tight_holds q accepted one,
        none_sooner q accepted σ v,
      )

  -- of kinds 1 and 3, whose links have one cost, what document 01 said of it before: "the lowest-numbered link carrying the most items"
  module _ (one : OneCost r.kind) where
    at_one_cost : (i : ℕ) → i < r.n → link_time r (offset r) i ≡ carries r (offset r) i * r.cost 0
    at_one_cost i h = ap (λ (c : ℕ). carries r (offset r) i * c) (ok.alike one i h)

    pub most_items : (i : ℕ) → i < r.n → carries r (offset r) i ≤ carries r (offset r) (tight r (offset r))
    most_items i h =
        let k = tight r (offset r) in
        elim (le_lt (carries r (offset r) i) (carries r (offset r) k)) [
          | inl l ↦ l
          | inr l ↦
              absurd
              (omega (
                arith,
                mul-le-mul_right (r.cost 0) l,
                at_one_cost i h,
                at_one_cost k (tight_below r ok),
                tight_greatest r ok i h,
                ok.costs 0 (omega (arith, ok.boards)),
              ))
        ]

    pub fewer_below : (i : ℕ) → i < tight r (offset r) → carries r (offset r) i < carries r (offset r) (tight r (offset r))
    fewer_below i h =
        let k = tight r (offset r) in
        elim (le_lt (carries r (offset r) k) (carries r (offset r) i)) [
          | inl l ↦
              absurd
              (omega (
                arith,
                mul-le-mul_right (r.cost 0) l,
                at_one_cost i (omega (arith, tight_below r ok)),
                at_one_cost k (tight_below r ok),
                tight_lowest r ok i h,
              ))
          | inr l ↦ l
        ]
