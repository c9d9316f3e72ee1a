-- What is known of the bytes of a job, and of arrays that hold what they say. Assumes nothing.
use Rattle.std.proofs.Common.{◌≡◌, sym, ap, ◌∙◌, List, ℕ, ◌≤◌, ltb, eqb, pos, length, get_or, replicate, Ok, Err, arith}
use borrow.Author.Tests.{le-ltb, eq-eqb, eqb-true}
use Rattle.ring.specs.Bytes.{half_at}
use Rattle.ring.specs.Lists.{each, each_ℤ}
use Rattle.ring.proofs.Fill.{Below, fill_at, fill_length}
use Rattle.hop.specs.declared.Shape.{Shape}
use Rattle.hop.specs.declared.Job.{Job}
use Rattle.hop.specs.declared.refusals.Refusal.TheVariants.{TooShort, NoJob, NoVersion, WrongLength}
use Rattle.hop.specs.Kinds.{number_of}
use Rattle.hop.specs.Refusals.{unlike, shape_of, ring_check}
use Rattle.hop.specs.Read.{job_length, load_in, surplus_in, cost_in, sizes_of, mark_of, head_of, check_of, beside}
use Rattle.hop.specs.Lawful.{Headed}
use Rattle.hop.proofs.KindNumbers.{kind_within}
use Rattle.hop.proofs.First.{no, yes, goes, went_on}
use Rattle.hop.proofs.Same.{check_same}
use Rattle.hop.proofs.Passed.{shaped, shape_ring, passed}

module _ (s : List ℕ) where
  -- no refusal of 1 to 6 is given exactly where the first seven bytes and the length say a ring
  pub headed : (ring : Shape) → head_of s ≡ Ok ring → Headed s (number_of ring.kind) ring.n
  headed ring e =
      let K = get_or s 5 0 in
      let N = get_or s 6 0 in
      let e0 = no (ltb (length s) 7) TooShort (mark_of s) e in
      let e1 = yes (eqb (get_or s 0 0) 72) NoJob (unlike (get_or s 1 0) 79 (Err NoJob) (unlike (get_or s 2 0) 80 (Err NoJob) (unlike (half_at s 3) 1 (Err NoVersion) (sizes_of s)))) e0.1 in
      let e2 = yes (eqb (get_or s 1 0) 79) NoJob (unlike (get_or s 2 0) 80 (Err NoJob) (unlike (half_at s 3) 1 (Err NoVersion) (sizes_of s))) e1.1 in
      let e3 = yes (eqb (get_or s 2 0) 80) NoJob (unlike (half_at s 3) 1 (Err NoVersion) (sizes_of s)) e2.1 in
      let e4 = yes (eqb (half_at s 3) 1) NoVersion (sizes_of s) e3.1 in
      let (a, on, e5) = went_on (shape_of K N) (λ a. unlike (length s) (job_length a.n) (Err WrongLength) (Ok a)) ring e4.1 in
      let e6 = yes (eqb (length s) (job_length a.n)) WrongLength (Ok a) e5 in
      let r : a ≡ ring = cc in
      let f = rw r at (shaped K N a on) in
      record {
        h = eqb-true (get_or s 0 0) 72 e1.0;
        o = eqb-true (get_or s 1 0) 79 e2.0;
        p = eqb-true (get_or s 2 0) 80 e3.0;
        version = eqb-true (half_at s 3) 1 e4.0;
        kind_is = sym f.kind_is;
        n_is = sym f.n_is;
        kinds = kind_within ring.kind;
        boards = rw (← f.n_is) at f.boards;
        whole = eqb-true (length s) (job_length a.n) e6.0 ∙ ap (λ (x : Shape). job_length x.n) r;
      }

  pub head_is : (ring : Shape) → Headed s (number_of ring.kind) ring.n → head_of s ≡ Ok ring
  head_is ring h =
      rw (le-ltb (length s) 7 (omega (arith, h.whole)), eq-eqb (get_or s 0 0) 72 h.h, eq-eqb (get_or s 1 0) 79 h.o, eq-eqb (get_or s 2 0) 80 h.p, eq-eqb (half_at s 3) 1 h.version, h.kind_is, h.n_is, shape_ring ring h.boards, eq-eqb (length s) (job_length ring.n) h.whole)

  -- what the check lets through has such a head
  pub check_head : (ring : Shape) → check_of s ≡ Ok ring → head_of s ≡ Ok ring
  unfolding check_of
  check_head ring e =
      let (a, on, f) = went_on (head_of s) _ ring e in
      on ∙ ap Ok (passed a (load_in s) (surplus_in s) (cost_in s) ring f).1

  pub check_headed : (ring : Shape) → check_of s ≡ Ok ring → Headed s (number_of ring.kind) ring.n
  check_headed ring e = headed ring (check_head ring e)

  module _ (ring : Shape) (d : head_of s ≡ Ok ring) (j : Job) (is : j ≡ beside s (Ok ring)) where
    pub lengths : (length j.loads ≡ 128) × (length j.surpluses ≡ 128) × (length j.costs ≡ 128)
    lengths = (
      ap (λ (x : Job). length x.loads) is ∙ fill_length (load_in s) (replicate 128 0) 0 ring.n,
      ap (λ (x : Job). length x.surpluses) is ∙ fill_length (surplus_in s) (replicate 128 (pos 0)) (pos 0) ring.n,
      ap (λ (x : Job). length x.costs) is ∙ fill_length (cost_in s) (replicate 128 0) 0 ring.n,
    )

    -- the arrays hold what the bytes say
    pub loads_are : ring.n ≤ 128 → Below (each j.loads) (load_in s) ring.n
    loads_are h = record { at = λ i l. ap (λ (x : Job). each x.loads i) is ∙ fill_at (load_in s) (replicate 128 0) 0 ring.n i l h }

    pub surpluses_are : ring.n ≤ 128 → Below (each_ℤ j.surpluses) (surplus_in s) ring.n
    surpluses_are h = record { at = λ i l. ap (λ (x : Job). each_ℤ x.surpluses i) is ∙ fill_at (surplus_in s) (replicate 128 (pos 0)) (pos 0) ring.n i l h }

    pub costs_are : ring.n ≤ 128 → Below (each j.costs) (cost_in s) ring.n
    costs_are h = record { at = λ i l. ap (λ (x : Job). each x.costs i) is ∙ fill_at (cost_in s) (replicate 128 0) 0 ring.n i l h }

    pub check_is : ring_check ring (each j.loads) (each_ℤ j.surpluses) (each j.costs) ≡ check_of s
    unfolding check_of
    check_is =
        let h = (headed ring d).boards in
        check_same ring (omega arith) (each j.loads) (load_in s) (each_ℤ j.surpluses) (surplus_in s) (each j.costs) (cost_in s)
        (loads_are h.1) (surpluses_are h.1) (costs_are h.1)
        ∙ goes (head_of s) _ ring d
