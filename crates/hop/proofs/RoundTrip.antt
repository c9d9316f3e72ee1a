-- Jobs are read and written, each undoing the other. Assumes nothing.
use Rattle.std.proofs.Common.{◌≡◌, refl, sym, ap, ◌∙◌, List, ◌++◌, ℕ, ◌≤◌, ◌<◌, ℤ, pos, length, get_or, take, drop, replicate, Result, Ok, arith}
use lib.Seq.{take_at, length-take-le, get_or-take}
use Rattle.ring.specs.Lists.{each, each_ℤ}
use Rattle.ring.proofs.Fill.{Below, fill_front}
use Rattle.ring.proofs.Joined.{joined_same}
use Rattle.hop.specs.declared.Shape.{Shape}
use Rattle.hop.specs.declared.Job.{Job}
use Rattle.hop.specs.declared.refusals.Refusal.{Refusal}
use Rattle.hop.specs.Kinds.{number_of}
use Rattle.hop.specs.Refusals.{ring_check}
use Rattle.hop.specs.Read.{job_length, load_in, surplus_in, cost_in, head_of, check_of, holding, job_of}
use Rattle.hop.specs.Write.{head_bytes, record_bytes, board_bytes, job_bytes, lists_of, written_of, buffer_by, buffer_of}
use Rattle.hop.proofs.First.{goes}
use Rattle.hop.proofs.Same.{check_same}
use Rattle.hop.proofs.Reading.{loads_are, surpluses_are, costs_are}
use Rattle.hop.proofs.Accepted.{check_ring, head_ring, job_beside, header, arrays}
use Rattle.hop.proofs.Listing.{listed, lists_ring, Wrote, passes, wrote}
use Rattle.hop.proofs.ReadBack.{bytes_long, job_back}
use Rattle.hop.proofs.WriteBack.{same_bytes}

-- what the writer wrote, the reader reads as the same kind and lists: they stand at the front of the job's arrays, with zeros after them
pub record ReadBack (kind : ℕ) (loads : List ℕ) (surpluses : List ℤ) (costs : List ℕ) (job : Job) : Type 0 where
  pub ring : Shape
  pub kind_is : number_of ring.kind ≡ kind
  pub n_is : ring.n ≡ length loads
  pub arrays : job ≡ holding ring (each loads) (each_ℤ surpluses) (each costs)
  pub answer : job.answer ≡ Ok ring
  pub loads_are : take (length loads) job.loads ≡ loads
  pub surpluses_are : take (length loads) job.surpluses ≡ surpluses
  pub costs_are : take (length loads) job.costs ≡ costs

module _ (kind : ℕ) (loads : List ℕ) (surpluses : List ℤ) (costs buf : List ℕ) (len : ℕ) (e : written_of kind loads surpluses costs (length buf) ≡ Ok len) where
  passed_lists : Wrote (lists_of kind loads surpluses costs) (length buf) len
  unfolding written_of
  passed_lists = passes (length buf) len (lists_of kind loads surpluses costs) e

  arrays_back : job_of (take len (buffer_of kind loads surpluses costs buf)) ≡ holding passed_lists.ring (each loads) (each_ℤ surpluses) (each costs)
  unfolding written_of buffer_of
  arrays_back =
      let w = passed_lists in
      let l = listed kind loads surpluses costs w.ring w.is in
      let bytes = job_bytes kind (length loads) (each loads) (each_ℤ surpluses) (each costs) in
      let long : length bytes ≡ len = bytes_long kind (length loads) (each loads) (each_ℤ surpluses) (each costs) ∙ ap job_length (sym l.n_is) ∙ w.long in
      ap (λ (x : Result ℕ Refusal). job_of (take len (buffer_by x bytes buf))) e
      ∙ ap job_of (take_at bytes (drop len buf) len long)
      ∙ (λ t. job_of (job_bytes (sym l.kind_is t) (sym l.n_is t) (each loads) (each_ℤ surpluses) (each costs)))
      ∙ job_back w.ring (each loads) (each_ℤ surpluses) (each costs) l.boards l.check_is

  pub read_back : ReadBack kind loads surpluses costs (job_of (take len (buffer_of kind loads surpluses costs buf)))
  read_back =
      let w = passed_lists in
      let l = listed kind loads surpluses costs w.ring w.is in
      let n = w.ring.n in
      record {
        ring = w.ring;
        kind_is = l.kind_is;
        n_is = l.n_is;
        arrays = arrays_back;
        answer = ap (λ (j : Job). j.answer) arrays_back;
        loads_are = rw (← l.n_is) (ap (λ (j : Job). take n j.loads) arrays_back ∙ fill_front loads 0 (replicate 128 0) n (sym l.n_is) l.boards.1);
        surpluses_are =
            rw (← l.n_is) (ap (λ (j : Job). take n j.surpluses) arrays_back ∙ fill_front surpluses (pos 0) (replicate 128 (pos 0)) n l.surpluses_long l.boards.1);
        costs_are = rw (← l.n_is) (ap (λ (j : Job). take n j.costs) arrays_back ∙ fill_front costs 0 (replicate 128 0) n l.costs_long l.boards.1);
      }

-- what the reader accepted, written again, gives the same bytes
module _ (s : List ℕ) (bytes : (i : ℕ) → get_or s i 0 < 256) (ring : Shape) (e : (job_of s).answer ≡ Ok ring) where
  pub write_back : (buf : List ℕ) → length s ≤ length buf
      → (written_of (number_of ring.kind) (take ring.n (job_of s).loads) (take ring.n (job_of s).surpluses) (take ring.n (job_of s).costs) (length buf) ≡ Ok (length s))
      × (buffer_of (number_of ring.kind) (take ring.n (job_of s).loads) (take ring.n (job_of s).surpluses) (take ring.n (job_of s).costs) buf ≡ s ++ drop (length s) buf)
  unfolding check_of job_bytes
  write_back buf room =
      let n = ring.n in
      let h = header s ring e in
      let a = arrays s ring e in
      let f = head_ring s ring e in
      let b = job_beside s ring e in
      let xs = take n (job_of s).loads in
      let zs = take n (job_of s).surpluses in
      let cs = take n (job_of s).costs in
      let sl : Below (each xs) (load_in s) n = record { at = λ i l. get_or-take n (job_of s).loads i 0 l ∙ (loads_are s ring f (job_of s) b h.boards.1).at i l } in
      let sz : Below (each_ℤ zs) (surplus_in s) n = record { at = λ i l. get_or-take n (job_of s).surpluses i (pos 0) l ∙ (surpluses_are s ring f (job_of s) b h.boards.1).at i l } in
      let sc : Below (each cs) (cost_in s) n = record { at = λ i l. get_or-take n (job_of s).costs i 0 l ∙ (costs_are s ring f (job_of s) b h.boards.1).at i l } in
      let is : ring_check ring (each xs) (each_ℤ zs) (each cs) ≡ Ok ring =
      check_same ring (omega arith) (each xs) (load_in s) (each_ℤ zs) (surplus_in s) (each cs) (cost_in s) sl sz sc ∙ goes (head_of s) _ ring f ∙ check_ring s ring e in
      let through = lists_ring (number_of ring.kind) xs zs cs ring refl (length-take-le n (job_of s).loads (omega arith)) (length-take-le n (job_of s).surpluses (omega arith)) (length-take-le n (job_of s).costs (omega arith)) h.boards is in
      let same : s ≡ job_bytes (number_of ring.kind) n (each xs) (each_ℤ zs) (each cs) =
      sym (ap (λ (r : List ℕ). head_bytes (number_of ring.kind) n ++ r) (joined_same (board_bytes (each xs) (each_ℤ zs) (each cs)) (board_bytes (load_in s) (surplus_in s) (cost_in s)) n
      (λ i l t. record_bytes (sl.at i l t) (sz.at i l t) (sc.at i l t)))
      ∙ same_bytes s bytes (number_of ring.kind) n h) in
      let w = wrote (number_of ring.kind) xs zs cs buf ring (length s) through h.whole room (s ++ drop (length s) buf) ((λ t. same t ++ drop (h.whole t) buf)) in
      (sym w.answer, sym w.buffer)
