-- No valid schedule ends before the plan's finish, and in kinds 1 and 2 none carries less over a link than the plan.
use mathlib.Core.Path.{◌≡◌}
use mathlib.Core.List.{List}
use mathlib.Core.Logic.{◌⊎◌, inl, inr}
use Prim.Native.Nat.{ℕ, ◌+◌, ◌*◌, ◌-◌, ◌/◌, ◌≤◌, ◌<◌, max}
use native.Mathlib.Nat.{mul-le-mul_right, le_trans}
use native.Mathlib.Omega.{arith}
use lib.Dec.{eqb}
use borrow.Author.Tests.{eqb-true, eq-eqb, ne_eqb}
use Rattle.ring.specs.Numbers.{one_if, greatest}
use Rattle.ring.specs.Lists.{EachTwo, count}
use Rattle.ring.specs.Boards.{Ring, Accepted, TwoWay}
use Rattle.ring.specs.Schedule.{Send, sender, receiver, Apart, Valid, finish}
use Rattle.ring.specs.Plan.{R, ahead, behind, carries, surplus_size, rounds, link_time, finish_of}
use Rattle.ring.proofs.Tests.{le_lt}
use Rattle.ring.proofs.Sums.{max_has, greatest_has}
use Rattle.ring.proofs.Totals.{each_map, total_zero}
use Rattle.ring.proofs.Level.{One, Fits, low_at, high_at, none_behind, idle}
use Rattle.ring.proofs.Flow.{along, fore, hind, net_flow}
use Rattle.ring.proofs.Finish.{board_room, along_room}

module _ (r : Ring) (ok : Accepted r) (σ : List Send) (v : Valid r σ) where
  none_back : (TwoWay r.kind → ⊥) → (l : ℕ) → hind σ l ≡ 0
  none_back one l = total_zero (λ s. one_if (along 1 l s)) σ (each_map (λ s a. at s a.1) σ v.allowed)
    where
      at : (s : Send) → (s.direction ≡ 0) ⊎ ((s.direction ≡ 1) × TwoWay r.kind) → one_if (along 1 l s) ≡ 0
      at s (inl w) = rw w
      at s (inr w) = absurd (one w.1)

  module _ (two : r.kind ≡ 3) where
    abbrev Takes : ℕ → Type 0
    Takes m = m * r.cost 0 ≤ finish r σ

    fewer : (m k : ℕ) → m ≤ k → Takes k → Takes m
    fewer m k l t = le_trans (mul-le-mul_right (r.cost 0) l) t

    -- what one board sends, or receives
    one_board : (who : Send → ℕ) → EachTwo (λ s t. who s ≡ who t → Apart r s t) σ → (i : ℕ) → Takes (count (λ s. eqb (who s) i) σ)
    one_board who apart i =
        board_room r σ v who apart (λ s. eqb (who s) i) (r.cost 0) i (λ s a e. (eqb-true (who s) i e, omega (arith, ok.alike (inr two) s.link a.0)))

    of_surplus : (i : ℕ) → i < r.n → Takes (surplus_size r i)
    of_surplus i h =
        max_has Takes _ _
        (fewer _ _ (omega (arith, v.left i h)) (one_board (sender r) v.sends i))
        (fewer _ _ (omega (arith, v.left i h)) (one_board (receiver r) v.receipts i))

    pub one_link : (w l : ℕ) → l < r.n → Takes (count (along w l) σ)
    one_link w l h = rw (ok.alike (inr two) l h) at (along_room r σ v w l)

    -- between the highest and the lowest level the net flows differ by all of R, so one of the two links carries half of it
    of_half : Takes ((R r + 1) / 2)
    of_half =
        let (a, p, q) = high_at r ok in
        let (b, s, t) = low_at r ok in
        elim (le_lt ((R r + 1) / 2) (fore σ a)) [
          | inl l ↦ fewer _ _ l (one_link 0 a p)
          | inr l ↦ fewer _ _ (omega (arith, net_flow r σ v ok a p, net_flow r σ v ok b s)) (one_link 1 b s)
        ]

    rounds_few : rounds r ≤ max (greatest (surplus_size r) (r.n - 1)) ((R r + 1) / 2)
    unfolding rounds
    rounds_few = omega arith

    takes_rounds : Takes (rounds r)
    takes_rounds =
        let surpluses = greatest_has Takes (surplus_size r) (r.n - 1) (λ i l. of_surplus i (omega (arith, ok.boards))) in
        fewer _ _ rounds_few (max_has Takes _ _ surpluses of_half)

module _ (r : Ring) (o : ℕ) (ok : Accepted r) (σ : List Send) (v : Valid r σ) where
  module _ (one : One r o) where
    pub none_fewer : (i : ℕ) → i < r.n → carries r o i ≤ fore σ i
    unfolding ahead behind
    none_fewer i h =
        let (b, p, q) = idle r o ok one in
        let none = none_back r ok σ v one.kind in
        omega (arith, none_behind r o ok one i h, none_behind r o ok one b p, net_flow r σ v ok i h, net_flow r σ v ok b p, none i, none b)

    by_links : finish_of r o ≤ greatest (link_time r o) (r.n - 1)
    unfolding finish_of
    by_links = rw (ne_eqb r.kind 3 one.kind) (omega arith)

    lower_one_way : finish_of r o ≤ finish r σ
    lower_one_way =
        le_trans by_links
        (greatest_has (λ x. x ≤ finish r σ) (link_time r o) (r.n - 1)
        (λ i l. le_trans (mul-le-mul_right (r.cost i) (none_fewer i (omega (arith, ok.boards)))) (along_room r σ v 0 i)))

  module _ (two : r.kind ≡ 3) where
    by_rounds : finish_of r o ≤ rounds r * r.cost 0
    unfolding finish_of
    by_rounds = rw (eq-eqb r.kind 3 two) (omega arith)

    lower_two_way : finish_of r o ≤ finish r σ
    lower_two_way = le_trans by_rounds (takes_rounds r ok σ v two)

  pub lower : Fits r o → finish_of r o ≤ finish r σ
  lower fits = elim fits [ inl two ↦ lower_two_way two.kind | inr one ↦ lower_one_way one ]
