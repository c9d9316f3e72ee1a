-- Kinds 1 and 2: the plan's starts keep what a valid schedule asks for.
use mathlib.Core.Path.{ap}
use mathlib.Core.Bool.{Bool}
use mathlib.Core.Logic.{inl, inr}
use Prim.Native.Nat.{ℕ, suc, ◌-◌, ◌≤◌, ◌<◌}
use native.Mathlib.Omega.{arith}
use lib.Dec.{ltb, leb}
use borrow.Author.Tests.{le-ltb, le-leb}
use Rattle.ring.specs.Numbers.{sum}
use Rattle.ring.specs.Boards.{Ring, Accepted, TwoWay, prev}
use Rattle.ring.specs.Schedule.{Send, MayStart, sender, ends, sent_before, received_by, load_at}
use Rattle.ring.specs.Plan.{ahead, carries, end_of, start_of, send_of, plan}
use Rattle.ring.proofs.Sums.{few_pass, enough_pass}
use Rattle.ring.proofs.Neighbours.{prev_below}
use Rattle.ring.proofs.Level.{One, none_behind, comes}
use Rattle.ring.proofs.Planned.{Hind, link_is, Timed, passing, sent_by, received_by_is, sender_fore}
use Rattle.ring.proofs.Steady.{steady_le}
use Rattle.ring.proofs.Pace.{in_time}
use Rattle.ring.proofs.Rule.{start_is, start_rule, ends_is}
use Rattle.ring.proofs.Ends.{steady_back}

module _ (r : Ring) (o : ℕ) (ok : Accepted r) (one : One r o) where
  -- later sends of a link end later, and start later
  end_up : (i x y : ℕ) → i < r.n → x ≤ y → end_of r i x ≤ end_of r i y
  end_up i x y h p = steady_le (steady_back r ok r.n i h) x y p

  start_up : (i x y : ℕ) → i < r.n → x ≤ y → start_of r o i x ≤ start_of r o i y
  start_up i x y h p = omega (arith, start_is r o ok one i x, start_is r o ok one i y, end_up i x y h p)

  turns : (i j k : ℕ) → i < r.n → j < k → k < carries r o i → ends r (send_of r o i (suc j)) ≤ start_of r o i (suc k)
  turns i j k h a b =
      let c = none_behind r o ok one i h in
      omega (arith, ends_is r o ok one i j h (omega arith), start_rule r o ok one i k h (omega arith), end_up i (suc j) k h a)

  never : (i : ℕ) → i < r.n → Hind r o i → ⊥
  never i h b = omega (arith, none_behind r o ok one i h, b.some)

  back : (i : ℕ) → i < r.n → Hind r o i → TwoWay r.kind
  back i h b = absurd (never i h b)

  -- by the start of send j + 1 no more than j have gone, and enough have come
  gone : (i j : ℕ) → i < r.n → sent_before r (plan r o) i (start_of r o i (suc j)) ≤ j
  unfolding sum
  gone i j h =
      let q : Send → Bool = λ s. ltb s.start (start_of r o i (suc j)) in
      let z = none_behind r o ok one (prev r.n i) (prev_below r.n i h) in
      omega (
        arith,
        sent_by r o back q i h,
        ap (passing r o q (prev r.n i)) z,
        few_pass (λ m. q (send_of r o i (suc m))) j (ahead r o i) (λ m a b. le-ltb (start_of r o i (suc m)) (start_of r o i (suc j)) (later m a)),
      )
    where
      later : (m : ℕ) → j ≤ m → start_of r o i (suc j) ≤ start_of r o i (suc m)
      later m a = start_up i (suc j) (suc m) h (omega arith)

  come : (i j : ℕ) → i < r.n → suc j ≤ ahead r o i → suc j - r.load i ≤ received_by r (plan r o) i (start_of r o i (suc j))
  come i j h k =
      let q : Send → Bool = λ s. leb (ends r s) (start_of r o i (suc j)) in
      let x : ℕ = suc j - r.load i in
      let c : x ≤ ahead r o (prev r.n i) = comes r o ok one i (suc j) h k in
      omega (
        arith,
        received_by_is r o back q i h,
        enough_pass (λ m. q (send_of r o (prev r.n i) (suc m))) x (ahead r o (prev r.n i)) (λ m d e. le-leb (ends r (send_of r o (prev r.n i) (suc m))) _ (came m d e)),
      )
    where
      came : (m : ℕ) → m < suc j - r.load i → m < ahead r o (prev r.n i) → ends r (send_of r o (prev r.n i) (suc m)) ≤ start_of r o i (suc j)
      came m d e =
          let b = prev_below r.n i h in
          omega (arith, ends_is r o ok one (prev r.n i) m b e, end_up (prev r.n i) (suc m) (suc j - r.load i) b d, start_rule r o ok one i j h k)

  held : (i j : ℕ) → i < r.n → j < carries r o i → MayStart r (plan r o) (sender r (send_of r o i (suc j))) (start_of r o i (suc j))
  unfolding load_at
  held i j h l =
      elim (link_is r o i) [
        | inl f ↦ let k : suc j ≤ ahead r o i = omega (arith, f.none) in rw (sender_fore r o i (suc j) f) (omega (arith, gone i j h, come i j h k))
        | inr b ↦ absurd (never i h b)
      ]

  pub timed_one_way : Timed r o
  timed_one_way = record {
    back = back;
    turns = turns;
    meet = λ i a h k f b. absurd (never a k b);
    held = held;
    ended = λ i j h l. let z = none_behind r o ok one i h in omega (arith, ends_is r o ok one i j h (omega arith), in_time r o ok one i (suc j) h (omega arith));
  }
