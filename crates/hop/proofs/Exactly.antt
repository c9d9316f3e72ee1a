-- A job is read, and lists are written, exactly where they are lawful: what has nothing for a refusal is never refused. Assumes nothing.
use Rattle.std.proofs.Common.{◌≡◌, refl, sym, ap, ◌∙◌, List, ◌⊎◌, ℕ, ◌≤◌, ◌<◌, ℤ, length, Ok, Err, arith}
use mathlib.Core.Logic.{inl, inr}
use borrow.Author.Tests.{lt-ltb, le-ltb, eq-eqb, ne_eqb}
use Rattle.ring.specs.Boards.{OneCost}
use Rattle.ring.specs.Lists.{each, each_ℤ}
use Rattle.ring.specs.Limits.{board_of}
use Rattle.ring.proofs.Sound.{after_within, sound}
use Rattle.hop.specs.declared.kinds.Kind.{Kind}
use Rattle.hop.specs.declared.kinds.Kind.TheVariants.{OneWay, MixedOneWay, TwoWay}
use Rattle.hop.specs.declared.Shape.{Shape}
use Rattle.hop.specs.declared.refusals.Refusal.TheVariants.{NoRoom}
use Rattle.hop.specs.Kinds.{number_of}
use Rattle.hop.specs.Refusals.{board_fault, cost_fault, balanced_of, alike_of, ring_check}
use Rattle.hop.specs.Read.{job_length, load_in, surplus_in, cost_in, head_of, check_of}
use Rattle.hop.specs.Write.{lists_of, room_of, written_of}
use Rattle.hop.specs.Lawful.{Lawful, LawfulJob, LawfulLists}
use Rattle.hop.proofs.KindNumbers.{kind_within, kind_some}
use Rattle.hop.proofs.First.{goes, passed as none-faulty}
use Rattle.hop.proofs.Passed.{faultless_made, passed}
use Rattle.hop.proofs.Reading.{head_is, check_head, check_headed}
use Rattle.hop.proofs.Listing.{listed, lists_ring, passes}

-- a kind is 2, or its links have one cost
two_or : (kind : Kind) → (number_of kind ≡ 2) ⊎ ((number_of kind ≡ 2 → ⊥) × OneCost (number_of kind))
two_or OneWay = inr (λ e. omega arith, inl refl)
two_or MixedOneWay = inl refl
two_or TwoWay = inr (λ e. omega arith, inr refl)

module _ (ring : Shape) (load : ℕ → ℕ) (surplus : ℕ → ℤ) (cost : ℕ → ℕ) where
  -- numbers that are let through are lawful
  lawful : (out : Shape) → ring_check ring load surplus cost ≡ Ok out → Lawful (number_of ring.kind) ring.n load surplus cost
  lawful out e =
      let p = (passed ring load surplus cost out e).0 in
      record {
        loads = λ i h. let s = p.sane i h in (s.load_least, s.load_most);
        afters = λ i h. after_within (p.sane i h);
        costs = λ i h. let s = p.sane i h in (s.cost_least, s.cost_most);
        alike = p.alike;
        balanced = p.balanced;
      }

  module _ (l : Lawful (number_of ring.kind) ring.n load surplus cost) where
    alike_ring : alike_of ring surplus cost ≡ balanced_of ring surplus
    alike_ring =
        elim (two_or ring.kind) [
          | inl two ↦ rw (eq-eqb (number_of ring.kind) 2 two)
          | inr one ↦
              rw (ne_eqb (number_of ring.kind) 2 one.0)
              (none-faulty (cost_fault cost) ring.n (balanced_of ring surplus) (record { at = λ i h. rw (eq-eqb (cost i) (cost 0) (l.alike one.1 i h)) }))
        ]

    -- and lawful numbers are let through
    let_through : ring_check ring load surplus cost ≡ Ok ring
    unfolding ring_check
    let_through =
        none-faulty (board_fault load surplus cost) ring.n (alike_of ring surplus cost)
        (record { at = λ i h. faultless_made i (board_of (load i) (surplus i) (cost i)) (sound (load i) (surplus i) (cost i) (l.loads i h) (l.afters i h) (l.costs i h)) })
        ∙ alike_ring
        ∙ rw l.balanced

-- the reader gives a ring exactly of a lawful job's bytes
module _ (s : List ℕ) (ring : Shape) where
  pub read_lawful : check_of s ≡ Ok ring → LawfulJob s (number_of ring.kind) ring.n
  unfolding check_of
  read_lawful e =
      (check_headed s ring e, lawful ring (load_in s) (surplus_in s) (cost_in s) ring (goes (head_of s) _ ring (check_head s ring e) ∙ e))

  ring_read : LawfulJob s (number_of ring.kind) ring.n → check_of s ≡ Ok ring
  unfolding check_of
  ring_read l = sym (goes (head_of s) _ ring (head_is s ring l.0)) ∙ let_through ring (load_in s) (surplus_in s) (cost_in s) l.1

-- a lawful job's kind is one of the three, and the job is read as a ring of it
pub lawful_read : (s : List ℕ) (kind n : ℕ) → LawfulJob s kind n → (ring : Shape) × (number_of ring.kind ≡ kind) × (ring.n ≡ n) × (check_of s ≡ Ok ring)
lawful_read s kind n l =
    let k = kind_some kind l.0.kinds in
    let ring : Shape = record { kind = k.0; n = n } in
    (ring, k.1, refl, ring_read s ring (rw (← k.1) at l))

-- the writer writes exactly lawful lists into a buffer with room
module _ (kind : ℕ) (loads : List ℕ) (surpluses : List ℤ) (costs : List ℕ) (room : ℕ) where
  pub written_lawful : (len : ℕ) → written_of kind loads surpluses costs room ≡ Ok len
      → LawfulLists kind loads surpluses costs × (len ≡ job_length (length loads)) × (len ≤ room)
  unfolding written_of
  written_lawful len e =
      let w = passes room len (lists_of kind loads surpluses costs) e in
      let l = listed kind loads surpluses costs w.ring w.is in (
        record {
          kinds = rw l.kind_is at (kind_within w.ring.kind);
          boards = rw l.n_is at l.boards;
          surpluses_long = l.surpluses_long ∙ l.n_is;
          costs_long = l.costs_long ∙ l.n_is;
          lawful = rw (l.kind_is, l.n_is) at (lawful w.ring (each loads) (each_ℤ surpluses) (each costs) w.ring l.check_is);
        },
        omega (arith, w.long, l.n_is),
        w.fits,
      )

  lists_through : LawfulLists kind loads surpluses costs → (ring : Shape) × (ring.n ≡ length loads) × (lists_of kind loads surpluses costs ≡ Ok ring)
  lists_through l =
      let k = kind_some kind l.kinds in
      let ring : Shape = record { kind = k.0; n = length loads } in (
        ring,
        refl,
        lists_ring kind loads surpluses costs ring k.1 refl l.surpluses_long l.costs_long l.boards
            (let_through ring (each loads) (each_ℤ surpluses) (each costs) (rw (← k.1) at l.lawful)),
      )

  pub lawful_written : LawfulLists kind loads surpluses costs → job_length (length loads) ≤ room
      → written_of kind loads surpluses costs room ≡ Ok (job_length (length loads))
  unfolding written_of
  lawful_written l fits = let t = lists_through l in ap (room_of room) t.2 ∙ rw (t.1, le-ltb room (job_length (length loads)) fits)

  -- with too little room 13 is given, and nothing else
  pub lawful_short : LawfulLists kind loads surpluses costs → room < job_length (length loads) → written_of kind loads surpluses costs room ≡ Err NoRoom
  unfolding written_of
  lawful_short l short = let t = lists_through l in ap (room_of room) t.2 ∙ rw (t.1, lt-ltb room (job_length (length loads)) short)
