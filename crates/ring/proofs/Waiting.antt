-- Kinds 1 and 2: the plan's starts keep document 01's rule of waiting, and no other starts do.
use mathlib.Core.Path.{◌≡◌, refl, sym, ap}
use mathlib.Core.Bool.{Bool, true, false}
use Prim.Native.Nat.{ℕ, zero, suc, ◌+◌, ◌-◌, ◌≤◌, ◌<◌}
use native.Mathlib.Omega.{arith}
use lib.Dec.{ltb}
use borrow.Author.Tests.{ltb-true, lt-ltb}
use Rattle.ring.specs.Numbers.{pick}
use Rattle.ring.specs.Boards.{Ring, Accepted, prev}
use Rattle.ring.specs.Plan.{fed, Waits, ahead, carries, end_of, start_of}
use Rattle.ring.proofs.Tests.{leb_iff}
use Rattle.ring.proofs.Neighbours.{prev_below}
use Rattle.ring.proofs.Level.{One, none_behind, comes}
use Rattle.ring.proofs.Ends.{back_zero}
use Rattle.ring.proofs.Rule.{round, start_rule, ends_is}

module _ (r : Ring) (o : ℕ) (ok : Accepted r) (one : One r o) where
  all_ahead : (i : ℕ) → i < r.n → carries r o i ≡ ahead r o i
  all_ahead i h = omega (arith, none_behind r o ok one i h)

  -- a send's end is a cost after its start, and that of send 0 is 0
  end_is : (i j : ℕ) → i < r.n → j ≤ ahead r o i → end_of r i j ≡ pick (ltb 0 j) (start_of r o i j + r.cost i) 0
  end_is i zero h k = back_zero r ok r.n i
  end_is i (suc j) h k = rw (lt-ltb 0 (suc j) (omega arith)) (sym (ends_is r o ok one i j h k))

  later : (load j : ℕ) → ltb 0 (suc j - load) ≡ ltb load (suc j)
  later load j = leb_iff 1 (suc j - load) (suc load) (suc j) (λ p. omega arith) (λ p. omega arith)

  pub waits : Waits r o (start_of r o)
  waits i j h l =
      let k : suc j ≤ ahead r o i = omega (arith, all_ahead i h) in
      let last = end_is i j h (omega arith) in
      let feeds = end_is (prev r.n i) (suc j - r.load i) (prev_below r.n i h) (comes r o ok one i (suc j) h k) in
      rw (← later (r.load i) j) (omega (arith, start_rule r o ok one i j h k))

  -- two starts by the rule are the same on a link if they are on the link before
  module _ (g s : ℕ → ℕ → ℕ) (wg : Waits r o g) (ws : Waits r o s) where
    abbrev Same : ℕ → Type 0
    Same i = (j : ℕ) → j < carries r o i → g i (suc j) ≡ s i (suc j)

    other : (i : ℕ) → i < r.n → Same (prev r.n i) → (j : ℕ) → j < carries r o i → fed r g i (suc j) ≡ fed r s i (suc j)
    other i h same j l = go (ltb (r.load i) (suc j)) refl
      where
        go : (b : Bool) → ltb (r.load i) (suc j) ≡ b
            → pick b (g (prev r.n i) (suc j - r.load i) + r.cost (prev r.n i)) 0 ≡ pick b (s (prev r.n i) (suc j - r.load i) + r.cost (prev r.n i)) 0
        go true e =
            let a = ltb-true (r.load i) (suc j) e in
            let x : suc j - r.load i ≡ suc (j - r.load i) = omega arith in
            let k : j - r.load i < carries r o (prev r.n i) = omega (arith, comes r o ok one i (suc j) h (omega (arith, all_ahead i h))) in
            omega (arith, same (j - r.load i) k, ap (g (prev r.n i)) x, ap (s (prev r.n i)) x)
        go false e = refl

    on_link : (i : ℕ) → i < r.n → Same (prev r.n i) → Same i
    on_link i h same zero l = omega (arith, wg i 0 h l, ws i 0 h l, other i h same 0 l)
    on_link i h same (suc j) l =
        let t : ltb 0 (suc j) ≡ true = lt-ltb 0 (suc j) (omega arith) in
        omega (arith, rw t at (wg i (suc j) h l), rw t at (ws i (suc j) h l), other i h same (suc j) l, on_link i h same j (omega arith))

    pub one_rule : (i : ℕ) → i < r.n → Same i
    one_rule = round r o ok one (λ d i. Same i) (λ d i h z j l. absurd (omega (arith, all_ahead i h))) (λ d i h same. on_link i h same)
