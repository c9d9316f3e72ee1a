-- A board has no fault exactly where each of its three numbers is within its limits. Assumes nothing.
use mathlib.Core.Path.{◌≡◌, refl, sym, ap, subst, ◌∙◌}
use mathlib.Core.Bool.{Bool, true, false}
use Prim.Native.Nat.{ℕ, ◌≤◌}
use native.Mathlib.Omega.{arith}
use lib.Dec.{ltb, leb→le, le→leb}
use lib.IntN.{ℤ, pos, negsuc, ◌-ℤ◌, nat_abs}
use lib.Signed.{lt_z, ◌≤ℤ◌, le_z_yes}
use borrow.Author.Tests.{ltb-false, le-ltb}
use Rattle.std.specs.Prelude.{Result, Ok, Err}
use Rattle.ring.specs.declared.Board.{Board}
use Rattle.ring.specs.declared.Outside.{Outside}
use Rattle.ring.specs.declared.Outside.TheVariants.{Load, After, Cost}
use Rattle.ring.specs.Numbers.{pick}
use Rattle.ring.specs.Limits.{outside_ℤ, board_of, cost_of, fault_of}

-- neither test held
neither : (t u : Bool) (a x : Result Board Outside) → (fault_of a ≡ 0 → ⊥) → fault_of (pick t a (pick u a x)) ≡ 0 → (t ≡ false) × (u ≡ false) × (pick t a (pick u a x) ≡ x)
neither true u a x bad e = absurd (bad e)
neither false true a x bad e = absurd (bad e)
neither false false a x bad e = (refl, refl, refl)

-- a load after that is neither below 1 nor above the most is a natural number within them
within : (z : ℤ) → lt_z z (pos 1) ≡ false → lt_z (pos 4095) z ≡ false → (1 ≤ nat_abs z) × (nat_abs z ≤ 4095) × (pos (nat_abs z) ≡ z)
within (pos n) lo hi = (ltb-false n 1 lo, ltb-false 4095 n hi, refl)
within (negsuc n) lo hi = let z : ◌≡◌ {A = ℕ} 0 1 = cc in absurd (omega arith)

pub record Sane (l : ℕ) (z : ℤ) (c : ℕ) : Type 0 where
  pub load_least : 1 ≤ l
  pub load_most : l ≤ 4095
  pub after_least : 1 ≤ nat_abs (pos l -ℤ z)
  pub after_most : nat_abs (pos l -ℤ z) ≤ 4095
  pub after_is : pos (nat_abs (pos l -ℤ z)) ≡ pos l -ℤ z
  pub cost_least : 1 ≤ c
  pub cost_most : c ≤ 8000

-- a board with no fault has each number within its limits
pub sane : (l : ℕ) (z : ℤ) (c : ℕ) → fault_of (board_of l z c) ≡ 0 → Sane l z c
unfolding board_of
sane l z c e =
    let no7 : fault_of (Err Load) ≡ 0 → ⊥ = λ q. omega arith in
    let no8 : fault_of (Err After) ≡ 0 → ⊥ = λ q. omega arith in
    let no9 : fault_of (Err Cost) ≡ 0 → ⊥ = λ q. omega arith in
    let p = neither (ltb l 1) (ltb 4095 l) (Err Load) (outside_ℤ (pos 1) (pos 4095) (pos l -ℤ z) (Err After) (cost_of l z c)) no7 e in
    let q = neither (lt_z (pos l -ℤ z) (pos 1)) (lt_z (pos 4095) (pos l -ℤ z)) (Err After) (cost_of l z c) no8 (sym (ap fault_of p.2) ∙ e) in
    let r = neither (ltb c 1) (ltb 8000 c) (Err Cost) (Ok (record { load = l; surplus = z; cost = c })) no9 (sym (ap fault_of (p.2 ∙ q.2)) ∙ e) in
    let w = within (pos l -ℤ z) q.0 q.1 in
    record {
      load_least = ltb-false l 1 p.0;
      load_most = ltb-false 4095 l p.1;
      after_least = w.0;
      after_most = w.1;
      after_is = w.2;
      cost_least = ltb-false c 1 r.0;
      cost_most = ltb-false 8000 c r.1;
    }

-- the load after, as the signed number that it is
pub after_within : {l : ℕ} {z : ℤ} {c : ℕ} → Sane l z c → (pos 1 ≤ℤ (pos l -ℤ z)) × ((pos l -ℤ z) ≤ℤ pos 4095)
after_within {l} {z} s =
    let a = nat_abs (pos l -ℤ z) in
    subst (λ (x : ℤ). (pos 1 ≤ℤ x) × (x ≤ℤ pos 4095)) s.after_is (le_z_yes (le→leb 1 a s.after_least), le_z_yes (le→leb a 4095 s.after_most))

-- a number that is not above another is not tested to be
not_above : (a b : ℤ) → a ≤ℤ b → lt_z b a ≡ false
not_above (pos a) (pos b) h = le-ltb b a (leb→le a b h.le)
not_above (pos a) (negsuc b) h = absurd h.le
not_above (negsuc a) (pos b) h = refl
not_above (negsuc a) (negsuc b) h = le-ltb a b (leb→le b a h.le)

-- a board with each number within its limits has no fault
pub sound : (l : ℕ) (z : ℤ) (c : ℕ) → (1 ≤ l) × (l ≤ 4095) → (pos 1 ≤ℤ (pos l -ℤ z)) × ((pos l -ℤ z) ≤ℤ pos 4095) → (1 ≤ c) × (c ≤ 8000)
    → fault_of (board_of l z c) ≡ 0
unfolding board_of
sound l z c load after cost =
    rw (le-ltb l 1 load.0, le-ltb 4095 l load.1, not_above (pos 1) (pos l -ℤ z) after.0, not_above (pos l -ℤ z) (pos 4095) after.1, le-ltb c 1 cost.0, le-ltb 8000 c cost.1)
