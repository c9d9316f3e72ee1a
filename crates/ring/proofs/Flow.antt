-- What any valid schedule carries over each link.
use mathlib.Core.Path.{◌≡◌}
use mathlib.Core.List.{List}
use mathlib.Core.Bool.{Bool}
use mathlib.Core.Logic.{◌⊎◌, inl, inr}
use Prim.Native.Nat.{ℕ, zero, suc, ◌+◌, ◌-◌, ◌<◌}
use native.Mathlib.Omega.{arith}
use lib.Dec.{eqb}
use Rattle.ring.specs.Numbers.{both, one_if, sum}
use Rattle.ring.specs.Lists.{Each, count}
use Rattle.ring.specs.Boards.{Ring, Accepted, TwoWay, prev}
use Rattle.ring.specs.Schedule.{Send, sender, receiver, Allowed, Valid}
use Rattle.ring.specs.Plan.{level}
use Rattle.ring.proofs.Tests.{one_of_two}
use Rattle.ring.proofs.Totals.{each_map, total_split}
use Rattle.ring.proofs.Neighbours.{leads}
use Rattle.ring.proofs.Level.{level_is}

-- a send of link l in direction w
abbrev pub along : ℕ → ℕ → Send → Bool
along w l s = both (eqb s.direction w) (eqb s.link l)

-- the sends of link l forward, and back
abbrev pub fore : List Send → ℕ → ℕ
fore σ l = count (along 0 l) σ

abbrev pub hind : List Send → ℕ → ℕ
hind σ l = count (along 1 l) σ

module _ (r : Ring) where
  -- board i sends forward on its link and back on the link before, and receives the other way about
  sender_flow : (s : Send) (i : ℕ) → i < r.n → Allowed r s → one_if (eqb (sender r s) i) ≡ one_if (along 0 i s) + one_if (along 1 (prev r.n i) s)
  sender_flow s i h a = go a.1
    where
      go : (s.direction ≡ 0) ⊎ ((s.direction ≡ 1) × TwoWay r.kind) → one_if (eqb (sender r s) i) ≡ one_if (along 0 i s) + one_if (along 1 (prev r.n i) s)
      go (inl w) = rw w (omega arith)
      go (inr w) = rw (w.0, leads r.n s.link i a.0 h) (omega arith)

  receiver_flow : (s : Send) (i : ℕ) → i < r.n → Allowed r s → one_if (eqb (receiver r s) i) ≡ one_if (along 0 (prev r.n i) s) + one_if (along 1 i s)
  receiver_flow s i h a = go a.1
    where
      go : (s.direction ≡ 0) ⊎ ((s.direction ≡ 1) × TwoWay r.kind) → one_if (eqb (receiver r s) i) ≡ one_if (along 0 (prev r.n i) s) + one_if (along 1 i s)
      go (inl w) = rw (w, leads r.n s.link i a.0 h) (omega arith)
      go (inr w) = rw w.0 (omega arith)

  module _ (σ : List Send) (allowed : Each (Allowed r) σ) (i : ℕ) (h : i < r.n) where
    pub sent : count (λ s. eqb (sender r s) i) σ ≡ fore σ i + hind σ (prev r.n i)
    sent = total_split _ _ _ σ (each_map (λ s a. sender_flow s i h a) σ allowed)

    pub received : count (λ s. eqb (receiver r s) i) σ ≡ fore σ (prev r.n i) + hind σ i
    received = total_split _ _ _ σ (each_map (λ s a. receiver_flow s i h a) σ allowed)

    -- the same of the sends that pass a test
    pub sent_if : (q : Send → Bool)
        → count (λ s. both (eqb (sender r s) i) (q s)) σ ≡ count (λ s. both (along 0 i s) (q s)) σ + count (λ s. both (along 1 (prev r.n i) s) (q s)) σ
    sent_if q =
        total_split _ _ _ σ
        (each_map (λ s a. one_of_two (eqb (sender r s) i) (along 0 i s) (along 1 (prev r.n i) s) (q s) (sender_flow s i h a)) σ allowed)

    pub received_if : (q : Send → Bool)
        → count (λ s. both (eqb (receiver r s) i) (q s)) σ ≡ count (λ s. both (along 0 (prev r.n i) s) (q s)) σ + count (λ s. both (along 1 i s) (q s)) σ
    received_if q =
        total_split _ _ _ σ
        (each_map (λ s a. one_of_two (eqb (receiver r s) i) (along 0 (prev r.n i) s) (along 1 i s) (q s) (receiver_flow s i h a)) σ allowed)

  module _ (σ : List Send) (v : Valid r σ) where
    -- what comes to a board and what leaves it
    pub flow : (i : ℕ) → i < r.n → r.load i + fore σ (prev r.n i) + hind σ i ≡ r.after i + fore σ i + hind σ (prev r.n i)
    flow i h = omega (arith, v.left i h, sent σ v.allowed i h, received σ v.allowed i h)

    -- the same of boards 0 to i together
    flow_below : (i : ℕ) → i < r.n → sum r.load (suc i) + fore σ (r.n - 1) + hind σ i ≡ sum r.after (suc i) + fore σ i + hind σ (r.n - 1)
    unfolding sum
    flow_below zero h = omega (arith, flow 0 h)
    flow_below (suc i) h = omega (arith, flow_below i (omega arith), flow (suc i) h)

    -- so the net flow of a link is its level, less one number that all links share
    pub net_flow : Accepted r → (i : ℕ) → i < r.n → level r i + fore σ (r.n - 1) + hind σ i ≡ sum r.load r.n + fore σ i + hind σ (r.n - 1)
    net_flow ok i h = omega (arith, flow_below i h, ok.balanced, level_is r i h)
