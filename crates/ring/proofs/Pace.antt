-- Kinds 1 and 2: no send of the plan ends after the finish.
use mathlib.Core.Path.{◌≡◌, ap}
use mathlib.Core.Logic.{inl, inr}
use Prim.Native.Nat.{ℕ, zero, suc, ◌+◌, ◌*◌, ◌-◌, ◌≤◌, ◌<◌, max}
use native.Mathlib.Nat.{le_refl, mul-le-mul_left, mul-le-mul_right}
use native.Mathlib.Omega.{arith}
use borrow.Author.Tests.{ne_eqb}
use Rattle.ring.specs.Boards.{Ring, Accepted, prev}
use Rattle.ring.specs.Plan.{ahead, carries, end_back, end_of, link_time, finish_of}
use Rattle.ring.proofs.Tests.{le_lt}
use Rattle.ring.proofs.Sums.{le_greatest}
use Rattle.ring.proofs.Neighbours.{prev_below}
use Rattle.ring.proofs.Level.{One, ahead_step, comes}
use Rattle.ring.proofs.Ends.{back_closed, back_zero}

-- an end e that is no later than w sends one after another of link l, where w is at most j and link l carries w and `more` besides
record Paced (r : Ring) (o e j more : ℕ) : Type 0 where
  l : ℕ
  w : ℕ
  below : l < r.n
  few : w ≤ j
  by : e ≤ r.cost l * w
  fits : w + more ≤ ahead r o l

module _ (r : Ring) (o : ℕ) (ok : Accepted r) (one : One r o) where
  own : (i j e : ℕ) → i < r.n → j ≤ ahead r o i → e ≤ r.cost i * j → Paced r o e j (ahead r o i - j)
  own i j e h k b = record { l = i; w = j; below = h; few = le_refl j; by = b; fits = omega arith }

  -- from the link before: at least one of the items of board i stays there
  pass : (i j e : ℕ) → i < r.n → suc j ≤ ahead r o i → r.load i ≤ suc j → Paced r o e (suc j - r.load i) (ahead r o (prev r.n i) - (suc j - r.load i))
      → Paced r o (max (r.cost i * suc j) (r.cost i + e)) (suc j) (ahead r o i - suc j)
  pass i j e h k p v =
      let L : 1 ≤ r.load i = (ok.loads i h).0 in
      let A : 1 ≤ r.after i = (ok.afters i h).0 in
      let S : ahead r o i + r.after i ≡ ahead r o (prev r.n i) + r.load i = ahead_step r o ok one i h in
      elim (le_lt (r.cost i + e) (r.cost i * suc j)) [
        | inl q ↦ own i (suc j) _ h k (omega arith)
        | inr q ↦
            elim (le_lt (r.cost i) (r.cost v.l)) [
              | inl m ↦
                  record {
                    l = v.l;
                    w = suc v.w;
                    below = v.below;
                    few = omega (arith, v.few);
                    by = omega (arith, v.by);
                    fits = omega (arith, v.fits);
                  }
              | inr m ↦
                  let a : r.cost v.l * v.w ≤ r.cost i * v.w = mul-le-mul_right v.w (omega arith) in
                  let b : r.cost i * suc v.w ≤ r.cost i * suc j = mul-le-mul_left (r.cost i) (omega (arith, v.few)) in
                  own i (suc j) _ h k (omega (arith, v.by))
            ]
      ]

  paced : (d i j : ℕ) → i < r.n → j ≤ ahead r o i → Paced r o (end_back r d i j) j (ahead r o i - j)
  paced zero i j h k = own i j _ h k (unfold end_back in omega arith)
  paced (suc d) i zero h k = own i 0 _ h k (omega (arith, back_zero r ok (suc d) i))
  paced (suc d) i (suc j) h k =
      elim (le_lt (r.load i) (suc j)) [
        | inl p ↦ rw (back_closed r ok d i j h) (pass i j _ h k p (paced d (prev r.n i) (suc j - r.load i) (prev_below r.n i h) (comes r o ok one i (suc j) h k)))
        | inr p ↦
            let e : suc j - r.load i ≡ 0 = omega arith in
            own i (suc j) _ h k (omega (arith, back_closed r ok d i j h, ap (end_back r d (prev r.n i)) e, back_zero r ok d (prev r.n i)))
      ]

  pub in_time : (i j : ℕ) → i < r.n → j ≤ ahead r o i → end_of r i j ≤ finish_of r o
  unfolding finish_of
  in_time i j h k =
      let v = paced r.n i j h k in
      let a : r.cost v.l * v.w ≤ r.cost v.l * carries r o v.l = mul-le-mul_left (r.cost v.l) (omega (arith, v.fits)) in
      rw (ne_eqb r.kind 3 one.kind) (omega (arith, v.by, le_greatest (link_time r o) (r.n - 1) v.l (omega (arith, v.below))))
