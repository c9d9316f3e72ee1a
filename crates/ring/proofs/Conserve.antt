-- The loads of a valid schedule: no board ever sends what it does not have, loads plus items in flight are the job's total at every
-- tick, and after all sends each board has what it is to have.
use mathlib.Core.Path.{◌≡◌, refl, sym, ◌∙◌}
use mathlib.Core.List.{List}
use mathlib.Core.Bool.{Bool, true, false}
use mathlib.Core.Logic.{inl, inr}
use Prim.Native.Nat.{ℕ, zero, suc, ◌+◌, ◌*◌, ◌-◌, ◌≤◌, ◌<◌}
use native.Mathlib.Omega.{arith}
use lib.Dec.{eqb, ltb, leb}
use borrow.Author.Tests.{eqb-true, eq-eqb, ne_eqb, le-ltb, lt-ltb, le-leb, lt-leb}
use Rattle.ring.specs.Numbers.{pick, both, one_if, sum}
use Rattle.ring.specs.Lists.{Each, count}
use Rattle.ring.specs.Boards.{Ring, Accepted, next}
use Rattle.ring.specs.Schedule.{Send, sender, receiver, lasts, ends, sent_before, received_by, load_at, in_flight, finish, Allowed, Valid}
use Rattle.ring.proofs.Tests.{le_lt, both_true}
use Rattle.ring.proofs.Sums.{sum_eq, sum_add, sum_at}
use Rattle.ring.proofs.Totals.{count_step, count_none, each_all, each_map, each_map₂, two_map, total_eq, total_le, total_split, sum_total, count_with, count_some}
use Rattle.ring.proofs.Packing.{packed}
use Rattle.ring.proofs.Neighbours.{next_below}
use Rattle.ring.proofs.Finish.{finish_each, lasting}

-- of the numbers below k, m is one
sum_one : (m : ℕ) (b : Bool) (k : ℕ) → m < k → sum (λ i. one_if (both (eqb m i) b)) k ≡ one_if b
sum_one m b k h =
    sum_at (λ i. one_if (both (eqb m i) b)) m k h (λ i ne. rw (ne_eqb m i (λ e. ne (sym e)))) ∙ rw (eq-eqb m m refl)

module _ (r : Ring) where
  -- each send is of one board, and to one board
  pub of_board_counted : (s : Send) → Allowed r s → (b : Bool) → (pick b s.link (next r.n s.link) < r.n) × (pick b (next r.n s.link) s.link < r.n)
  of_board_counted s a true = (a.0, next_below r.n s.link a.0)
  of_board_counted s a false = (next_below r.n s.link a.0, a.0)

  module _ (ok : Accepted r) (σ : List Send) (v : Valid r σ) where
    abbrev starts_at : ℕ → ℕ → Send → Bool
    starts_at i t s = both (eqb (sender r s) i) (eqb s.start t)

    starts_is : (i t : ℕ) (s : Send) → starts_at i t s ≡ true → (sender r s ≡ i) × (s.start ≡ t)
    starts_is i t s e = let (x, y) = both_true _ _ e in (eqb-true (sender r s) i x, eqb-true s.start t y)

    -- one send at most starts at a board at one tick
    starts_one : (i t : ℕ) → count (starts_at i t) σ * 1 ≤ 1
    starts_one i t =
        packed (starts_at i t) (λ s. 0) (λ s. 1) 1 1 σ
        (two_map (λ s u a b h ps pu.
        let x = starts_is i t s ps in
        let y = starts_is i t u pu in
        absurd (elim (h (x.0 ∙ sym y.0)) [ inl l ↦ omega arith | inr l ↦ omega arith ]))
        σ (lasting r σ v ok) v.sends)
        (each_all (λ s e. omega arith) σ)

    sent_none : (i : ℕ) → sent_before r σ i 0 ≡ 0
    sent_none i = count_none (λ s. eqb (sender r s) i) (λ s. s.start) σ

    sent_step : (i t : ℕ) → sent_before r σ i (suc t) ≡ sent_before r σ i t + count (starts_at i t) σ
    sent_step i t = count_step (λ s. eqb (sender r s) i) (λ s. s.start) t σ

    received_step : (i t : ℕ) → received_by r σ i t ≤ received_by r σ i (suc t)
    received_step i t = total_le _ _ σ (each_all (λ s. at (eqb (receiver r s) i) (ends r s)) σ)
      where
        at : (b : Bool) (m : ℕ) → one_if (both b (leb m t)) ≤ one_if (both b (leb m (suc t)))
        at false m = omega arith
        at true m =
            elim (le_lt m t) [
              | inl l ↦ rw (le-leb m (suc t) (omega arith), le-leb m t l) (omega arith)
              | inr l ↦ rw (lt-leb m t l) (omega arith)
            ]

    -- what has been sent through tick t was there by tick t
    over : (i t : ℕ) → sent_before r σ i t ≤ r.load i + received_by r σ i t → sent_before r σ i (suc t) ≤ r.load i + received_by r σ i t
    unfolding load_at
    over i t h =
        elim (count_some (starts_at i t) (r.load i + received_by r σ i t - sent_before r σ i t) σ
        (each_map (λ s h e. let x = starts_is i t s e in rw (← x.0, ← x.1) h) σ v.held)) [
          | inl e ↦ omega (arith, sent_step i t)
          | inr l ↦ omega (arith, sent_step i t, starts_one i t)
        ]

    pub never_below : (i t : ℕ) → sent_before r σ i t ≤ r.load i + received_by r σ i t
    never_below i zero = omega (arith, sent_none i)
    never_below i (suc t) = omega (arith, over i t (never_below i t), received_step i t)

    pub never_over : (i t : ℕ) → sent_before r σ i (suc t) ≤ r.load i + received_by r σ i t
    never_over i t = over i t (never_below i t)

    load_exact : (i t : ℕ) → load_at r σ i t + sent_before r σ i t ≡ r.load i + received_by r σ i t
    unfolding load_at
    load_exact i t = omega (arith, never_below i t)

    -- every send counts at one board, and every receipt
    at_one_board : (who : Send → ℕ) → Each (λ s. who s < r.n) σ → (q : Send → Bool)
        → sum (λ i. count (λ s. both (eqb (who s) i) (q s)) σ) r.n ≡ count q σ
    at_one_board who h q =
        sum_total (λ i s. one_if (both (eqb (who s) i) (q s))) r.n σ ∙ total_eq _ _ σ (each_map (λ s l. sum_one (who s) (q s) r.n l) σ h)

    in_flight_is : (t : ℕ) → count (λ s. ltb s.start t) σ ≡ count (λ s. leb (ends r s) t) σ + in_flight r σ t
    unfolding in_flight
    in_flight_is t = total_split _ _ _ σ (each_map (λ s a. at s.start (lasts r s) a) σ (lasting r σ v ok))
      where
        at : (m c : ℕ) → 1 ≤ c → one_if (ltb m t) ≡ one_if (leb (m + c) t) + one_if (both (ltb m t) (ltb t (m + c)))
        at m c h =
            elim (le_lt (m + c) t) [
              | inl l ↦ rw (lt-ltb m t (omega arith), le-leb (m + c) t l, le-ltb t (m + c) l)
              | inr l ↦
                  elim (le_lt t m) [
                    | inl k ↦ rw (le-ltb m t k, lt-leb (m + c) t l)
                    | inr k ↦ rw (lt-ltb m t k, lt-leb (m + c) t l, lt-ltb t (m + c) l)
                  ]
            ]

    pub conserved : (t : ℕ) → sum (λ i. load_at r σ i t) r.n + in_flight r σ t ≡ sum r.load r.n
    conserved t =
        omega (
          arith,
          in_flight_is t,
          at_one_board (sender r) (each_map (λ s a. (of_board_counted s a (eqb s.direction 0)).0) σ v.allowed) (λ s. ltb s.start t),
          at_one_board (receiver r) (each_map (λ s a. (of_board_counted s a (eqb s.direction 0)).1) σ v.allowed) (λ s. leb (ends r s) t),
          sum_add (λ i. load_at r σ i t) (λ i. sent_before r σ i t) r.n,
          sum_add r.load (λ i. received_by r σ i t) r.n,
          sum_eq (λ i. load_at r σ i t + sent_before r σ i t) (λ i. r.load i + received_by r σ i t) r.n (λ i l. load_exact i t),
        )

    -- after all sends
    module _ (t : ℕ) (late : finish r σ ≤ t) where
      all_sent : (i : ℕ) → sent_before r σ i t ≡ count (λ s. eqb (sender r s) i) σ
      all_sent i =
          count_with (λ s. eqb (sender r s) i) (λ s. ltb s.start t) σ
          (each_map₂ (λ s a (l : ends r s ≤ t). lt-ltb s.start t (omega arith)) σ
          (lasting r σ v ok) (finish_each r t σ late))

      all_received : (i : ℕ) → received_by r σ i t ≡ count (λ s. eqb (receiver r s) i) σ
      all_received i =
          count_with (λ s. eqb (receiver r s) i) (λ s. leb (ends r s) t) σ
          (each_map (λ s l. le-leb (ends r s) t l) σ (finish_each r t σ late))

      pub load_at_end : (i : ℕ) → i < r.n → load_at r σ i t ≡ r.after i
      unfolding load_at
      load_at_end i h = omega (arith, all_sent i, all_received i, v.left i h)
