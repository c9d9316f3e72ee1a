-- What is known of numbers that no refusal of 4, 5 or 7 to 11 meets. Assumes nothing.
use Rattle.std.proofs.Common.{◌≡◌, refl, sym, ap, ◌∙◌, Bool, true, false, ℕ, zero, suc, ◌<◌, ltb, eqb, ℤ, pos, negsuc, nat_abs, ◌+ℤ◌, ◌-ℤ◌, Some, None, Result, Ok, Err, arith}
use mathlib.Core.Logic.{inl, inr}
use lib.IntN.{+ℤ_idr, +ℤ_assoc, +ℤ_comm, -ℤ-+ℤ_cancel}
use borrow.Author.Tests.{le-ltb, ltb-false, eqb-true}
use Rattle.ring.specs.declared.Board.{Board}
use Rattle.ring.specs.declared.Outside.{Outside}
use Rattle.ring.specs.declared.Outside.TheVariants.{Load, After, Cost}
use Rattle.ring.specs.Numbers.{pick, sum, sum_ℤ}
use Rattle.ring.specs.Boards.{ring_of, Within, OneCost, Accepted}
use Rattle.ring.specs.Limits.{outside, board_of, fault_of}
use Rattle.ring.proofs.Sound.{Sane, sane}
use Rattle.hop.specs.declared.kinds.Kind.{Kind}
use Rattle.hop.specs.declared.Shape.{Shape}
use Rattle.hop.specs.declared.refusals.Refusal.{Refusal}
use Rattle.hop.specs.declared.refusals.Refusal.TheVariants.{BoardCount, Unbalanced}
use Rattle.hop.specs.Kinds.{number_of, kind_of}
use Rattle.hop.specs.Refusals.{shape_of, unmade, faultless, board_fault, cost_fault, balanced_of, alike_of, ring_check}
use Rattle.hop.proofs.KindNumbers.{kind_back, kind_within, kind_named}
use Rattle.hop.proofs.First.{no, yes, went_on, clear}

within : {A : Type 0} (lo hi x : ℕ) (r : Refusal) (next : Result A Refusal) {a : A} → outside lo hi x (Err r) next ≡ Ok a → Within lo hi x × (next ≡ Ok a)
within lo hi x r next e =
    let p = no (ltb x lo) r (pick (ltb hi x) (Err r) next) e in
    let q = no (ltb hi x) r next p.1 in
    ((ltb-false x lo p.0, ltb-false hi x q.0), q.1)

-- a kind and an n that pass are those of the ring
pub record Shaped (kind n : ℕ) (ring : Shape) : Type 0 where
  pub boards : Within 2 128 n
  pub kind_is : number_of ring.kind ≡ kind
  pub n_is : ring.n ≡ n

pub shaped : (kind n : ℕ) (ring : Shape) → shape_of kind n ≡ Ok ring → Shaped kind n ring
shaped kind n ring e =
    let named : Kind → Shape = λ k. record { kind = k; n = n } in
    let (k, on, f) = went_on (kind_of kind) (λ k. outside 2 128 n (Err BoardCount) (Ok (named k))) ring e in
    let p = within 2 128 n BoardCount (Ok (named k)) f in
    let r : named k ≡ ring = cc in
    record { boards = p.0; kind_is = sym (ap (λ (x : Shape). number_of x.kind) r) ∙ kind_named kind k on; n_is = sym (ap (λ (x : Shape). x.n) r) }

-- within its limits, the shape is the ring
pub shape_ring : (ring : Shape) → Within 2 128 ring.n → shape_of (number_of ring.kind) ring.n ≡ Ok ring
shape_ring ring bs = rw (kind_back ring.kind, le-ltb ring.n 2 bs.0, le-ltb 128 ring.n bs.1)

-- a board that has no refusal has no fault, and the other way about
pub no_fault : (i : ℕ) (b : Result Board Outside) → unmade i b ≡ None → fault_of b ≡ 0
no_fault i (Ok board) e = refl
no_fault i (Err fault) e = let z : ◌≡◌ {A = ℕ} 0 1 = cc in absurd (omega arith)

pub faultless_made : (i : ℕ) (b : Result Board Outside) → fault_of b ≡ 0 → unmade i b ≡ None
faultless_made i (Ok board) e = refl
faultless_made i (Err Load) e = absurd (omega arith)
faultless_made i (Err After) e = absurd (omega arith)
faultless_made i (Err Cost) e = absurd (omega arith)

-- loads after and surpluses add up to the loads
sums : (load : ℕ → ℕ) (surplus : ℕ → ℤ) (n : ℕ) → ((i : ℕ) → i < n → pos (nat_abs (pos (load i) -ℤ surplus i)) ≡ pos (load i) -ℤ surplus i)
    → pos (sum load n) ≡ pos (sum (λ i. nat_abs (pos (load i) -ℤ surplus i)) n) +ℤ sum_ℤ surplus n
unfolding sum sum_ℤ
sums load surplus zero h = refl
sums load surplus (suc k) h =
    let one : pos (load k) ≡ pos (nat_abs (pos (load k) -ℤ surplus k)) +ℤ surplus k =
    sym (-ℤ-+ℤ_cancel (pos (load k)) (surplus k)) ∙ ap (λ (z : ℤ). z +ℤ surplus k) (sym (h k (omega arith))) in
    (λ t. sums load surplus k (λ i l. h i (omega arith)) t +ℤ one t)
    ∙ swap (pos (sum (λ i. nat_abs (pos (load i) -ℤ surplus i)) k)) (sum_ℤ surplus k) (pos (nat_abs (pos (load k) -ℤ surplus k))) (surplus k)
  where
    swap : (a b c d : ℤ) → (a +ℤ b) +ℤ (c +ℤ d) ≡ (a +ℤ c) +ℤ (b +ℤ d)
    swap a b c d = +ℤ_assoc a b (c +ℤ d) ∙ ap (λ (z : ℤ). a +ℤ z) (sym (+ℤ_assoc b c d) ∙ ap (λ (z : ℤ). z +ℤ d) (+ℤ_comm b c) ∙ +ℤ_assoc c b d) ∙ sym (+ℤ_assoc a c (b +ℤ d))

differs : (t : Bool) (r : Refusal) → pick t None (Some r) ≡ None → t ≡ true
differs true r e = refl
differs false r e = let z : ◌≡◌ {A = ℕ} 0 1 = cc in absurd (omega arith)

nought : (z : ℤ) → nat_abs z ≡ 0 → z ≡ pos 0
nought (pos n) e = ap pos e
nought (negsuc n) e = absurd (omega arith)

module _ (ring : Shape) (load : ℕ → ℕ) (surplus : ℕ → ℤ) (cost : ℕ → ℕ) where
  pub record Passed : Type 0 where
    pub sane : (i : ℕ) → i < ring.n → Sane (load i) (surplus i) (cost i)
    pub alike : OneCost (number_of ring.kind) → (i : ℕ) → i < ring.n → cost i ≡ cost 0
    pub balanced : sum_ℤ surplus ring.n ≡ pos 0

  costs : {out : Shape} (x : Result Shape Refusal) (t : Bool) → eqb (number_of ring.kind) 2 ≡ t → pick t x (faultless (cost_fault cost) ring.n x) ≡ Ok out
      → (x ≡ Ok out) × (OneCost (number_of ring.kind) → (i : ℕ) → i < ring.n → cost i ≡ cost 0)
  costs x true p e = (e, λ o. elim o [ inl q ↦ absurd (omega (arith, eqb-true)) | inr q ↦ absurd (omega (arith, eqb-true)) ])
  costs {out} x false p e =
      let r = clear (cost_fault cost) ring.n x out e in
      (r.1, λ o i h. eqb-true (cost i) (cost 0) (differs (eqb (cost i) (cost 0)) _ (r.0.at i h)))

  -- the answer is a ring only of the same kind and number of boards, each within its limits
  pub passed : (out : Shape) → ring_check ring load surplus cost ≡ Ok out → Passed × (ring ≡ out)
  unfolding ring_check
  passed out e =
      let b = clear (board_fault load surplus cost) ring.n (alike_of ring surplus cost) out e in
      let c = costs (balanced_of ring surplus) (eqb (number_of ring.kind) 2) refl b.1 in
      let d = yes (eqb (nat_abs (sum_ℤ surplus ring.n)) 0) Unbalanced (Ok ring) c.0 in (
        record {
          sane = λ i h. sane (load i) (surplus i) (cost i) (no_fault i (board_of (load i) (surplus i) (cost i)) (b.0.at i h));
          alike = c.1;
          balanced = nought (sum_ℤ surplus ring.n) (eqb-true (nat_abs (sum_ℤ surplus ring.n)) 0 d.0);
        },
        let r : ring ≡ out = cc in r,
      )

  pub ring_accepted : Within 2 128 ring.n → Passed → Accepted (ring_of (number_of ring.kind) ring.n load surplus cost)
  ring_accepted bs p =
      record {
        kinds = kind_within ring.kind;
        boards = bs;
        loads = λ i h. ((p.sane i h).load_least, (p.sane i h).load_most);
        afters = λ i h. ((p.sane i h).after_least, (p.sane i h).after_most);
        costs = λ i h. ((p.sane i h).cost_least, (p.sane i h).cost_most);
        alike = p.alike;
        balanced =
            let n = ring.n in
            let e : pos (sum load n) ≡ pos (sum (λ i. nat_abs (pos (load i) -ℤ surplus i)) n) =
            sums load surplus n (λ i h. (p.sane i h).after_is)
            ∙ ap (λ (z : ℤ). pos (sum (λ i. nat_abs (pos (load i) -ℤ surplus i)) n) +ℤ z) p.balanced ∙ +ℤ_idr _ in
            cc;
      }
