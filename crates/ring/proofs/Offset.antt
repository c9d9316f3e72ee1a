-- Document 01's offset: it fits, and f in the document's words, over S.
use mathlib.Core.Path.{◌≡◌, sym, ap, ◌∙◌}
use mathlib.Core.Logic.{inl, inr}
use Prim.Native.Nat.{ℕ, ◌+◌, ◌/◌, ◌≤◌, ◌<◌}
use native.Mathlib.Omega.{arith}
use lib.IntN.{ℤ, pos, ◌+ℤ◌, ◌-ℤ◌, +ℤ_idr}
use borrow.Author.Tests.{eq-eqb, ne_eqb}
use Rattle.ring.specs.Numbers.{sum}
use Rattle.ring.specs.Boards.{Ring, Accepted, TwoWay}
use Rattle.ring.specs.Plan.{S, LeastAt, GreatestAt, level, low, R, offset, ahead, behind, f, carries, rounds}
use Rattle.ring.proofs.Signed.{difference, raised}
use Rattle.ring.proofs.Level.{kind_is, low_le, le_high, level_is_S, least_is, greatest_is, Fits, f_is_S}

module _ (r : Ring) where
  pub one_way : (TwoWay r.kind → ⊥) → offset r ≡ low r
  unfolding offset
  one_way one = rw (ne_eqb r.kind 3 one)

  pub two_way : r.kind ≡ 3 → offset r ≡ low r + R r / 2
  unfolding offset
  two_way two = rw (eq-eqb r.kind 3 two)

  module _ (ok : Accepted r) where
    -- the offset of kind 3 halves R
    halved : r.kind ≡ 3 → (i : ℕ) → i < r.n → carries r (offset r) i ≤ (R r + 1) / 2
    unfolding ahead behind
    halved two i h = omega (arith, two_way two, low_le r ok i h, le_high r ok i h)

    pub fits : Fits r (offset r)
    unfolding rounds
    fits =
        elim (kind_is r.kind) [
          | inl two ↦ inl (record { kind = two; within = λ i h. omega (arith, halved two i h) })
          | inr one ↦ inr (record { kind = one; from = one_way one })
        ]

    -- S(k) is low
    module _ (k : ℕ) (least : LeastAt r k) where
      -- one way, f(i) is S(i) − low, and that of link k is 0
      module _ (one : TwoWay r.kind → ⊥) where
        pub f_one_way : (i : ℕ) → i < r.n → f r (offset r) i ≡ S r i -ℤ S r k
        f_one_way i h =
            f_is_S r (offset r) i k 0 h least.0 (omega (arith, one_way one, least_is r ok k least)) ∙ ap (λ (z : ℤ). S r i -ℤ z) (+ℤ_idr (S r k))

        pub idle_one_way : carries r (offset r) k ≡ 0
        unfolding ahead behind
        idle_one_way = omega (arith, one_way one, least_is r ok k least)

      -- two way, f(i) is S(i) − low − floor(R / 2)
      pub f_two_way : r.kind ≡ 3 → (i : ℕ) → i < r.n → f r (offset r) i ≡ S r i -ℤ (S r k +ℤ pos (R r / 2))
      f_two_way two i h = f_is_S r (offset r) i k (R r / 2) h least.0 (omega (arith, two_way two, least_is r ok k least))

      -- and R is high − low
      pub R_is : (m : ℕ) → GreatestAt r m → pos (R r) ≡ S r m -ℤ S r k
      R_is m most =
          let t : ℤ = pos (sum r.after r.n) in
          sym (+ℤ_idr (pos (R r)))
          ∙ (difference (R r) 0 (level r m) (level r k) (omega (arith, least_is r ok k least, greatest_is r ok m most, low_le r ok m most.0))
          ∙ ((λ x. level_is_S r m most.0 x -ℤ level_is_S r k least.0 x) ∙ raised (S r m) (S r k) t))
