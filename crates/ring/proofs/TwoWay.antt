-- Kind 3: the plan's starts keep what a valid schedule asks for, by any offset with every |f| at most T.
use mathlib.Core.Path.{◌≡◌, sym, ap, ◌∙◌}
use mathlib.Core.Bool.{Bool, true, false}
use mathlib.Core.Logic.{◌⊎◌, inl, inr}
use Prim.Native.Nat.{ℕ, suc, ◌+◌, ◌*◌, ◌-◌, ◌≤◌, ◌<◌, min}
use native.Mathlib.Nat.{mul-le-mul_right, le_of_mul-le-mul_right, lt_of_mul-lt-mul_right, mul-lt-mul_of_pos_right, min-le_left, min-le_right, add-sub_cancel_left}
use native.Mathlib.Omega.{arith}
use lib.Dec.{ltb, leb}
use borrow.Author.Tests.{eq-eqb, lt-ltb}
use Rattle.ring.specs.Numbers.{pick, one_if}
use Rattle.ring.specs.Boards.{Ring, Accepted, TwoWay, next, prev}
use Rattle.ring.specs.Schedule.{Send, MayStart, sender, ends, sent_before, received_by, load_at, Apart}
use Rattle.ring.specs.Plan.{ahead, behind, carries, surplus_size, rounds, start_of, send_of, plan, finish_of}
use Rattle.ring.proofs.Tests.{leb_iff}
use Rattle.ring.proofs.Sums.{sum_eq, sum_below, le_greatest}
use Rattle.ring.proofs.Neighbours.{prev_below, next_below, prev_next}
use Rattle.ring.proofs.Level.{Two, one_sign, carried}
use Rattle.ring.proofs.Planned.{Fore, Hind, link_is, Timed, passing, sent_by, received_by_is, sender_fore, sender_hind}

-- the books of the board that sends on forward, and of the board that sends on back, as plain numbers
held_fore : (load after a p b t u w : ℕ) → 1 ≤ load → 1 ≤ after → load + p ≡ after + a + b → (p ≡ 0) ⊎ (b ≡ 0) → t < a → w ≤ b
    → 1 ≤ load + (min p t + u) - (min a t + w)
held_fore load after a p b t u w hl ha e (inl z) l k = omega arith
held_fore load after a p b t u w hl ha e (inr z) l k = omega arith

hind_room : (load after b p t j : ℕ) → 1 ≤ load → 1 ≤ after → load + b ≡ after + p → j < p → p ≤ t → b ≤ t
    → j + 1 ≤ load + min b (t - p + j - (t - b))
hind_room load after b p t j hl ha e l k m = omega arith

held_hind : (load after a b p j u m w v : ℕ) → 1 ≤ after → load + b ≡ after + a + p → (a ≡ 0) ⊎ (b ≡ 0) → j < p
    → (load + b ≡ after + p → j + 1 ≤ load + m) → w ≤ a → v ≤ j → 1 ≤ load + (u + m) - (w + v)
held_hind load after a b p j u m w v ha e (inl z) l q hw hv = let o = q (omega arith) in omega arith
held_hind load after a b p j u m w v ha e (inr z) l q hw hv = omega arith

module _ (r : Ring) (o : ℕ) (ok : Accepted r) (two : Two r o) where
  -- there are rounds enough for any board's surplus
  for_each_board : (i : ℕ) → i < r.n → surplus_size r i ≤ rounds r
  unfolding rounds
  for_each_board i h = omega (arith, le_greatest (surplus_size r) (r.n - 1) i (omega arith))

  -- the round in which a link begins
  abbrev first : ℕ → ℕ
  first i = pick (ltb 0 (behind r o i)) (rounds r - behind r o i) 0

  first_fore : (i : ℕ) → Fore r o i → first i ≡ 0
  first_fore i f = rw f.none

  first_hind : (i : ℕ) → Hind r o i → first i ≡ rounds r - behind r o i
  first_hind i b = rw (lt-ltb 0 (behind r o i) b.some)

  start_is : (i j : ℕ) → i < r.n → start_of r o i (suc j) ≡ (first i + j) * r.cost 0
  unfolding start_of
  start_is i j h = rw (eq-eqb r.kind 3 two.kind, ok.alike (inr two.kind) i h) (go (ltb 0 (behind r o i)))
    where
      go : (b : Bool)
          → pick b ((rounds r - behind r o i + (suc j - 1)) * r.cost 0) ((suc j - 1) * r.cost 0) ≡ (pick b (rounds r - behind r o i) 0 + j) * r.cost 0
      go true = ap (λ (k : ℕ). (rounds r - behind r o i + k) * r.cost 0) (omega arith)
      go false = ap (λ (k : ℕ). k * r.cost 0) (omega arith)

  -- a send of one round ends by the start of a send of a later one
  before : (i j a b : ℕ) → i < r.n → a < r.n → first i + j < first a + b → ends r (send_of r o i (suc j)) ≤ start_of r o a (suc b)
  before i j a b h k l = omega (arith, start_is i j h, start_is a b k, ok.alike (inr two.kind) i h, mul-le-mul_right (r.cost 0) l)

  -- a forward link and a back link that meet at a board have rounds enough for both
  meeting : (i a : ℕ) → i < r.n → a < r.n → Fore r o i → Hind r o a → (i ≡ next r.n a) ⊎ (next r.n i ≡ a) → ahead r o i + behind r o a ≤ rounds r
  meeting i a h k f b (inl e) =
      let p : prev r.n i ≡ a = ap (prev r.n) e ∙ prev_next r.n a k in
      omega (arith, rw p at (carried r o ok i h), for_each_board i h, f.none, b.none)
  meeting i a h k f b (inr e) =
      let p : prev r.n a ≡ i = ap (prev r.n) (sym e) ∙ prev_next r.n i h in
      omega (arith, rw p at (carried r o ok a k), for_each_board a k, f.none, b.none)

  meet : (i a : ℕ) → i < r.n → a < r.n → Fore r o i → Hind r o a → (i ≡ next r.n a) ⊎ (next r.n i ≡ a) → (j b : ℕ) → j < carries r o i → b < carries r o a
      → Apart r (send_of r o i (suc j)) (send_of r o a (suc b))
  meet i a h k f g w j b lj lb =
      inl (before i j a b h k (omega (arith, meeting i a h k f g w, f.none, g.none, first_fore i f, first_hind a g, two.within a k)))

  -- a send has started by round t, and has ended by round t, exactly if it is of a lower round
  started : (t l j : ℕ) → l < r.n → ltb (start_of r o l (suc j)) (t * r.cost 0) ≡ ltb (first l + j) t
  started t l j h =
      rw (start_is l j h)
      (leb_iff (suc ((first l + j) * r.cost 0)) (t * r.cost 0) (suc (first l + j)) t
      (λ p. lt_of_mul-lt-mul_right (r.cost 0) p)
      (λ p. mul-lt-mul_of_pos_right p (ok.costs 0 (omega (arith, ok.boards))).0))

  ended : (t l j : ℕ) → l < r.n → leb (ends r (send_of r o l (suc j))) (t * r.cost 0) ≡ ltb (first l + j) t
  ended t l j h =
      rw (start_is l j h, ok.alike (inr two.kind) l h)
      (leb_iff ((first l + j) * r.cost 0 + r.cost 0) (t * r.cost 0) (suc (first l + j)) t
      (λ p. le_of_mul-le-mul_right {m = suc (first l + j)} {n = t} {k = r.cost 0} (omega arith) (ok.costs 0 (omega (arith, ok.boards))).0)
      (λ p. omega (arith, mul-le-mul_right (r.cost 0) p)))

  -- how much a link has carried by round t
  module _ (t l : ℕ) (q : Send → Bool) (by : (j : ℕ) → q (send_of r o l (suc j)) ≡ ltb (first l + j) t) where
    by_round : (k : ℕ) → passing r o q l k ≡ min k (t - first l)
    by_round k = sum_eq _ _ k (λ j m. ap one_if (by j)) ∙ sum_below (first l) t k

    fore_by : passing r o q l (ahead r o l) ≡ min (ahead r o l) t
    fore_by = elim (link_is r o l) [ inl f ↦ omega (arith, by_round (ahead r o l), first_fore l f) | inr b ↦ omega (arith, by_round (ahead r o l), b.none) ]

    hind_by : passing r o q l (behind r o l) ≡ min (behind r o l) (t - (rounds r - behind r o l))
    hind_by = elim (link_is r o l) [ inl f ↦ omega (arith, by_round (behind r o l), f.none) | inr b ↦ rw (← first_hind l b) (by_round (behind r o l)) ]

  back : (i : ℕ) → i < r.n → Hind r o i → TwoWay r.kind
  back i h b = two.kind

  sent_at : (t x : ℕ) → x < r.n
      → sent_before r (plan r o) x (t * r.cost 0) ≡ min (ahead r o x) t + min (behind r o (prev r.n x)) (t - (rounds r - behind r o (prev r.n x)))
  sent_at t x h =
      let q : Send → Bool = λ s. ltb s.start (t * r.cost 0) in
      let k = prev_below r.n x h in
      rw (sent_by r o back q x h, fore_by t x q (λ j. started t x j h), hind_by t (prev r.n x) q (λ j. started t (prev r.n x) j k))

  received_at : (t x : ℕ) → x < r.n
      → received_by r (plan r o) x (t * r.cost 0) ≡ min (ahead r o (prev r.n x)) t + min (behind r o x) (t - (rounds r - behind r o x))
  received_at t x h =
      let q : Send → Bool = λ s. leb (ends r s) (t * r.cost 0) in
      let k = prev_below r.n x h in
      rw (received_by_is r o back q x h, fore_by t (prev r.n x) q (λ j. ended t (prev r.n x) j k), hind_by t x q (λ j. ended t x j h))

  held : (i j : ℕ) → i < r.n → j < carries r o i → MayStart r (plan r o) (sender r (send_of r o i (suc j))) (start_of r o i (suc j))
  unfolding load_at
  held i j h l =
      elim (link_is r o i) [
        | inl f ↦
            rw (sender_fore r o i (suc j) f, start_is i j h, sent_at (first i + j) i h, received_at (first i + j) i h)
            (held_fore (r.load i) (r.after i) (ahead r o i) (ahead r o (prev r.n i)) (behind r o (prev r.n i)) (first i + j) _ _
            (ok.loads i h).0 (ok.afters i h).0 (omega (arith, carried r o ok i h, f.none)) (one_sign r o (prev r.n i))
            (omega (arith, first_fore i f, f.none)) (min-le_left _ _))
        | inr b ↦
            let x = next r.n i in
            let k = next_below r.n i h in
            let p : prev r.n x ≡ i = prev_next r.n i h in
            rw (sender_hind r o i (suc j) b, start_is i j h, sent_at (first i + j) x k, received_at (first i + j) x k, p, first_hind i b, add-sub_cancel_left)
            (held_hind (r.load x) (r.after x) (ahead r o x) (behind r o x) (behind r o i) j _ _ _ _
            (ok.afters x k).0 (omega (arith, rw p at (carried r o ok x k), b.none)) (one_sign r o x) (omega (arith, b.none))
            (λ e. hind_room (r.load x) (r.after x) (behind r o x) (behind r o i) (rounds r) j (ok.loads x k).0 (ok.afters x k).0 e
            (omega (arith, b.none)) (omega (arith, two.within i h)) (omega (arith, two.within x k)))
            (min-le_left _ _) (min-le_right _ _))
      ]

  last : (i j : ℕ) → i < r.n → j < carries r o i → ends r (send_of r o i (suc j)) ≤ finish_of r o
  unfolding finish_of
  last i j h l =
      rw (eq-eqb r.kind 3 two.kind)
      (omega (arith, start_is i j h, ok.alike (inr two.kind) i h, mul-le-mul_right (r.cost 0) (in_rounds (link_is r o i))))
    where
      in_rounds : Fore r o i ⊎ Hind r o i → suc (first i + j) ≤ rounds r
      in_rounds (inl f) = omega (arith, first_fore i f, f.none, two.within i h)
      in_rounds (inr b) = omega (arith, first_hind i b, b.none, two.within i h)

  pub timed_two_way : Timed r o
  timed_two_way = record { back = back; turns = λ i j k h l m. before i j i k h h (omega arith); meet = meet; held = held; ended = last }
