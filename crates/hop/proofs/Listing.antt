-- What is known of a writer's lists that pass, and the ends of the writer. Assumes nothing.
use Rattle.std.proofs.Common.{◌≡◌, refl, sym, ap, ◌∙◌, List, ◌++◌, ℕ, ◌≤◌, ◌<◌, ltb, eqb, ℤ, length, drop, Result, Ok, Err, arith}
use borrow.Author.Tests.{lt-ltb, le-ltb, ltb-false, eq-eqb, eqb-true}
use Rattle.ring.specs.Boards.{Within}
use Rattle.ring.specs.Lists.{each, each_ℤ}
use Rattle.hop.specs.declared.Shape.{Shape}
use Rattle.hop.specs.declared.refusals.Refusal.{Refusal}
use Rattle.hop.specs.declared.refusals.Refusal.TheVariants.{WrongLength, NoRoom}
use Rattle.hop.specs.Kinds.{number_of}
use Rattle.hop.specs.Refusals.{unlike, shape_of, ring_check}
use Rattle.hop.specs.Read.{job_length}
use Rattle.hop.specs.Write.{job_bytes, lists_of, room_of, written_of, buffer_by, buffer_of}
use Rattle.hop.proofs.First.{not_ok, no, yes, went_on}
use Rattle.hop.proofs.Passed.{shaped, shape_ring, passed}

-- a writer that wrote has passed its lists, and had room
pub record Wrote (c : Result Shape Refusal) (room len : ℕ) : Type 0 where
  pub ring : Shape
  pub is : c ≡ Ok ring
  pub long : job_length ring.n ≡ len
  pub fits : len ≤ room

pub passes : (room len : ℕ) (c : Result Shape Refusal) → room_of room c ≡ Ok len → Wrote c room len
passes room len (Ok ring) e =
    let p = no (ltb room (job_length ring.n)) NoRoom (Ok (job_length ring.n)) e in
    let long : job_length ring.n ≡ len = cc in
    record { ring = ring; is = refl; long = long; fits = omega (arith, ltb-false room (job_length ring.n) p.0) }
passes room len (Err r) e = absurd (not_ok e)

module _ (kind : ℕ) (loads : List ℕ) (surpluses : List ℤ) (costs : List ℕ) where
  pub record Listed (ring : Shape) : Type 0 where
    pub boards : Within 2 128 ring.n
    pub surpluses_long : length surpluses ≡ ring.n
    pub costs_long : length costs ≡ ring.n
    pub kind_is : number_of ring.kind ≡ kind
    pub n_is : ring.n ≡ length loads
    pub check_is : ring_check ring (each loads) (each_ℤ surpluses) (each costs) ≡ Ok ring

  pub listed : (ring : Shape) → lists_of kind loads surpluses costs ≡ Ok ring → Listed ring
  listed ring e =
      let check : Shape → Result Shape Refusal = λ a. ring_check a (each loads) (each_ℤ surpluses) (each costs) in
      let (a, on, f) = went_on (shape_of kind (length loads)) (λ a. unlike (length surpluses) a.n (Err WrongLength) (unlike (length costs) a.n (Err WrongLength) (check a))) ring e in
      let g = yes (eqb (length surpluses) a.n) WrongLength (unlike (length costs) a.n (Err WrongLength) (check a)) f in
      let h = yes (eqb (length costs) a.n) WrongLength (check a) g.1 in
      let p = (passed a (each loads) (each_ℤ surpluses) (each costs) ring h.1).1 in
      let s = rw p at (shaped kind (length loads) a on) in
      let n : a.n ≡ ring.n = ap (λ (x : Shape). x.n) p in
      record {
        boards = rw (← s.n_is) at s.boards;
        surpluses_long = eqb-true (length surpluses) a.n g.0 ∙ n;
        costs_long = eqb-true (length costs) a.n h.0 ∙ n;
        kind_is = s.kind_is;
        n_is = s.n_is;
        check_is = rw p at h.1;
      }

  -- lists of one length that pass
  pub lists_ring : (ring : Shape) → number_of ring.kind ≡ kind → length loads ≡ ring.n → length surpluses ≡ ring.n → length costs ≡ ring.n → Within 2 128 ring.n
      → ring_check ring (each loads) (each_ℤ surpluses) (each costs) ≡ Ok ring → lists_of kind loads surpluses costs ≡ Ok ring
  lists_ring ring k l z c bs e = rw (← k, l, shape_ring ring bs, eq-eqb (length surpluses) ring.n z, eq-eqb (length costs) ring.n c) e

  module _ (buf : List ℕ) where
    -- the answer, and the buffer that goes by it
    pub record Ends (w : Result ℕ Refusal) (now : List ℕ) : Type 0 where
      pub answer : w ≡ written_of kind loads surpluses costs (length buf)
      pub buffer : now ≡ buffer_of kind loads surpluses costs buf

    ends : (w : Result ℕ Refusal) (now : List ℕ) → room_of (length buf) (lists_of kind loads surpluses costs) ≡ w
        → now ≡ buffer_by w (job_bytes kind (length loads) (each loads) (each_ℤ surpluses) (each costs)) buf → Ends w now
    unfolding written_of buffer_of
    ends w now e b =
        record {
          answer = sym e;
          buffer = b ∙ ap (λ (x : Result ℕ Refusal). buffer_by x (job_bytes kind (length loads) (each loads) (each_ℤ surpluses) (each costs)) buf) (sym e);
        }

    pub refused : (r : Refusal) → lists_of kind loads surpluses costs ≡ Err r → Ends (Err r) buf
    refused r e = ends (Err r) buf (ap (room_of (length buf)) e) refl

    module _ (ring : Shape) (at : ℕ) (e : lists_of kind loads surpluses costs ≡ Ok ring) (is : at ≡ job_length ring.n) where
      pub short : length buf < at → Ends (Err NoRoom) buf
      short h = ends (Err NoRoom) buf (ap (room_of (length buf)) e ∙ rw (lt-ltb (length buf) (job_length ring.n) (omega arith))) refl

      pub wrote : at ≤ length buf → (now : List ℕ) → now ≡ job_bytes (number_of ring.kind) ring.n (each loads) (each_ℤ surpluses) (each costs) ++ drop (job_length ring.n) buf → Ends (Ok at) now
      wrote h now b =
          let l = listed ring e in
          rw is
          (ends (Ok (job_length ring.n)) now (ap (room_of (length buf)) e ∙ rw (le-ltb (length buf) (job_length ring.n) (omega arith)))
          (b ∙ (λ t. job_bytes (l.kind_is t) (l.n_is t) (each loads) (each_ℤ surpluses) (each costs) ++ drop (job_length ring.n) buf)))
