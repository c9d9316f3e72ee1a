-- A walk over a ring's boards: what it has seen of the first i, and how it ends. Assumes nothing.
use Rattle.std.proofs.Common.{◌≡◌, refl, sym, ap, ◌∙◌, Bool, true, false, ℕ, ◌+◌, ◌*◌, ◌≤◌, ◌<◌, eqb, ltb, ℤ, pos, nat_abs, ◌+ℤ◌, Some, None, Result, Ok, Err, FitsSigned, w16, arith, add-one}
use mathlib.Core.Logic.{inl, inr}
use borrow.Author.Tests.{eqb-true, eqb-false, eq-eqb, ne_eqb, ltb-true, ltb-false}
use Rattle.std.specs.Int.Signed.{mag}
use Rattle.ring.specs.declared.Board.{Board}
use Rattle.ring.specs.declared.Outside.{Outside}
use Rattle.ring.specs.Numbers.{pick, sum_ℤ}
use Rattle.ring.specs.Limits.{board_of}
use Rattle.ring.proofs.Tests.{le_lt}
use Rattle.hop.specs.declared.Shape.{Shape}
use Rattle.hop.specs.declared.rules.Seen.{Seen}
use Rattle.hop.specs.declared.refusals.Refusal.{Refusal}
use Rattle.hop.specs.declared.refusals.Refusal.TheVariants.{BadBoard, UnlikeCost, Unbalanced}
use Rattle.hop.specs.Kinds.{number_of}
use Rattle.hop.specs.Refusals.{unlike, unmade, faultless, board_fault, cost_fault, balanced_of, alike_of, ring_check}
use Rattle.hop.specs.Seen.{alike_with, kept_with, seen_by, seen_with, settled_of}
use Rattle.hop.proofs.First as faults
use Rattle.hop.proofs.First.{Sound}
use Rattle.hop.proofs.SignedSum.{mag_add}

-- at most another and not it: less
le_ne : (a b : ℕ) → a ≤ b → (a ≡ b → ⊥) → a < b
le_ne a b h n = elim (le_lt b a) [ inl l ↦ absurd (n (omega arith)) | inr l ↦ l ]

-- of the first i boards the first a have board 0's cost, and the next one, where there is one, has another
pub record Alike (cost : ℕ → ℕ) (i a : ℕ) : Type 0 where
  pub within : a ≤ i
  pub like : Sound (cost_fault cost) a
  pub other : a < i → cost a ≡ cost 0 → ⊥

module _ (cost : ℕ → ℕ) where
  -- one board more
  alike_more : (i : ℕ) (seen : Seen) → seen.first ≡ cost 0 → Alike cost i seen.alike → Alike cost (i + 1) (alike_with seen i (cost i))
  alike_more i seen is x = go (eqb seen.alike i) refl (eqb (cost i) seen.first) refl
    where
      a : ℕ
      a = seen.alike

      go : (t : Bool) → eqb a i ≡ t → (u : Bool) → eqb (cost i) seen.first ≡ u → Alike cost (i + 1) (pick t (pick u (i + 1) a) a)
      go true e true f =
          record {
            within = omega arith;
            like = faults.more (cost_fault cost) i (rw (eqb-true a i e) at x.like) (rw (eq-eqb (cost i) (cost 0) (eqb-true (cost i) seen.first f ∙ is)) refl);
            other = λ l q. omega arith;
          }
      go true e false f =
          record {
            within = omega (arith, x.within);
            like = x.like;
            other = λ l q. eqb-false (cost i) seen.first f (ap cost (sym (eqb-true a i e)) ∙ q ∙ sym is);
          }
      go false e u f = record { within = omega (arith, x.within); like = x.like; other = λ l q. x.other (le_ne a i x.within (eqb-false a i e)) q }

  -- it says which board refusal 10 names, when all were seen
  ten_is : (n a : ℕ) (next : Result Shape Refusal) → Alike cost n a → pick (ltb a n) (Err (UnlikeCost a)) next ≡ faultless (cost_fault cost) n next
  ten_is n a next x = go (ltb a n) refl
    where
      go : (t : Bool) → ltb a n ≡ t → pick t (Err (UnlikeCost a)) next ≡ faultless (cost_fault cost) n next
      go true e =
          let l : a < n = ltb-true a n e in
          sym (faults.stopped (cost_fault cost) a n next (UnlikeCost a) l x.like (rw (ne_eqb (cost a) (cost 0) (x.other l)) refl))
      go false e = let q : a ≡ n = omega (arith, ltb-false, x.within) in sym (faults.passed (cost_fault cost) n next (rw q at x.like))

-- of n boards the first i were seen, none of which has a fault of 7 to 9
pub record Walked (n : ℕ) (load : ℕ → ℕ) (surplus : ℕ → ℤ) (cost : ℕ → ℕ) (i : ℕ) (seen : Seen) : Type 0 where
  pub few : i ≤ n
  pub sound : Sound (board_fault load surplus cost) i
  pub first_is : seen.first ≡ cost 0
  pub alike : Alike cost i seen.alike
  pub sum_is : seen.sum ≡ sum_ℤ surplus i
  pub small : mag seen.sum ≤ 32768 * i

-- a board that was seen has no fault, and the other way about
made : (seen : Seen) (i : ℕ) (z : ℤ) (c : ℕ) (b : Result Board Outside) {now : Seen} → seen_by seen i z c b ≡ Ok now → (unmade i b ≡ None) × (kept_with seen i z c ≡ now)
made seen i z c (Ok board) e = (refl, cc)
made seen i z c (Err fault) e = let z : ◌≡◌ {A = ℕ} 0 1 = cc in absurd (omega arith)

faulty : (seen : Seen) (i : ℕ) (z : ℤ) (c : ℕ) (b : Result Board Outside) {fault : Outside} → seen_by seen i z c b ≡ Err fault → unmade i b ≡ Some (BadBoard fault i)
faulty seen i z c (Ok board) e = let z : ◌≡◌ {A = ℕ} 0 1 = cc in absurd (omega arith)
faulty seen i z c (Err f) {fault} e = let q : f ≡ fault = cc in ap (λ (x : Outside). Some (BadBoard x i)) q

module _ {n : ℕ} {load : ℕ → ℕ} {surplus : ℕ → ℤ} {cost : ℕ → ℕ} where
  pub none : {seen : Seen} → seen ≡ record { first = cost 0; alike = 0; sum = pos 0 } → Walked n load surplus cost 0 seen
  unfolding sum_ℤ
  none is =
      rw is
      (record { few = omega arith; sound = faults.none _; first_is = refl; alike = record { within = omega arith; like = faults.none _; other = λ l q. omega arith }; sum_is = refl; small = omega arith })

  -- and then board i, its surplus as 16 bits hold it
  module _ {i : ℕ} {seen : Seen} (w : Walked n load surplus cost i seen) (here : i < n) where
    pub more : {now : Seen} → FitsSigned w16 (surplus i) → seen_with seen i (load i) (surplus i) (cost i) ≡ Ok now → Walked n load surplus cost (i + 1) now
    unfolding sum_ℤ
    more {now} fits e =
        let m = made seen i (surplus i) (cost i) (board_of (load i) (surplus i) (cost i)) e in
        rw (← m.1, add-one) (record {
          few = here;
          sound = rw add-one at (faults.more _ i w.sound m.0);
          first_is = w.first_is;
          alike = rw add-one at (alike_more cost i seen w.first_is w.alike);
          sum_is = ap (λ (z : ℤ). z +ℤ surplus i) w.sum_is;
          small = omega (arith, mag_add seen.sum (surplus i), w.small, fits.sfits);
        })

    pub stopped : (ring : Shape) {fault : Outside} → ring.n ≡ n → seen_with seen i (load i) (surplus i) (cost i) ≡ Err fault → Err (BadBoard fault i) ≡ ring_check ring load surplus cost
    unfolding ring_check
    stopped ring {fault} q e =
        sym (faults.stopped (board_fault load surplus cost) i ring.n _ (BadBoard fault i) (omega arith) w.sound (faulty seen i (surplus i) (cost i) (board_of (load i) (surplus i) (cost i)) e))

  -- all boards were seen: the rest is said of them
  pub settled : (ring : Shape) {i : ℕ} {seen : Seen} → ring.n ≡ n → Walked n load surplus cost i seen → n ≤ i → settled_of ring seen ≡ ring_check ring load surplus cost
  unfolding ring_check
  settled ring {i} {seen} m w l =
      let q : i ≡ ring.n = omega (arith, w.few) in
      let z = w.sum_is ∙ ap (sum_ℤ surplus) q in
      (λ t. let rest : Result Shape Refusal = unlike (nat_abs (z t)) 0 (Err Unbalanced) (Ok ring) in pick (eqb (number_of ring.kind) 2) rest (pick (ltb seen.alike ring.n) (Err (UnlikeCost seen.alike)) rest))
      ∙ ap (pick (eqb (number_of ring.kind) 2) (balanced_of ring surplus)) (ten_is cost ring.n seen.alike (balanced_of ring surplus) (rw q at w.alike))
      ∙ sym (faults.passed (board_fault load surplus cost) ring.n (alike_of ring surplus cost) (rw q at w.sound))
