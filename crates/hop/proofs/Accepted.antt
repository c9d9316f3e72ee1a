-- What callers of the reader stand on: a job that is read as a ring is accepted, and its arrays are whole. Assumes nothing.
use Rattle.std.proofs.Common.{◌≡◌, refl, sym, ap, ◌∙◌, List, ℕ, ◌<◌, pos, ◌-ℤ◌, nat_abs, length, Result, Ok, Err}
use Rattle.ring.specs.Boards.{ring_in, Accepted}
use Rattle.ring.specs.Lists.{each, each_ℤ}
use Rattle.ring.specs.Plan.{surplus}
use Rattle.ring.proofs.Signed.{taken_off}
use Rattle.hop.specs.declared.Shape.{Shape}
use Rattle.hop.specs.declared.refusals.Refusal.{Refusal}
use Rattle.hop.specs.Kinds.{number_of}
use Rattle.hop.specs.Read.{head_of, check_of, beside, job_of}
use Rattle.hop.specs.Lawful.{Headed}
use Rattle.hop.proofs.Passed.{Passed, passed, ring_accepted}
use Rattle.hop.proofs.Reading.{check_head, check_headed, lengths, check_is}

-- a check's answer is the job's, whatever stands beside it
answer_of : (s : List ℕ) (c : Result Shape Refusal) → (beside s c).answer ≡ c
answer_of s (Ok ring) = refl
answer_of s (Err r) = refl

-- the reader's answer is its check's
pub job_answer : (s : List ℕ) → (job_of s).answer ≡ check_of s
unfolding job_of
job_answer s = answer_of s (check_of s)

module _ (s : List ℕ) (ring : Shape) (e : (job_of s).answer ≡ Ok ring) where
  pub check_ring : check_of s ≡ Ok ring
  check_ring = sym (job_answer s) ∙ e

  pub head_ring : head_of s ≡ Ok ring
  head_ring = check_head s ring check_ring

  pub job_beside : job_of s ≡ beside s (Ok ring)
  unfolding job_of
  job_beside = ap (beside s) check_ring

  pub header : Headed s (number_of ring.kind) ring.n
  header = check_headed s ring check_ring

  -- the arrays hold a ring that passed
  pub job_passed : Passed ring (each (job_of s).loads) (each_ℤ (job_of s).surpluses) (each (job_of s).costs)
  job_passed =
      (passed ring (each (job_of s).loads) (each_ℤ (job_of s).surpluses) (each (job_of s).costs) ring
      (check_is s ring head_ring (job_of s) job_beside ∙ check_ring)).0

  pub job_accepted : Accepted (ring_in (number_of ring.kind) ring.n (job_of s).loads (job_of s).surpluses (job_of s).costs)
  job_accepted =
      ring_accepted ring (each (job_of s).loads) (each_ℤ (job_of s).surpluses) (each (job_of s).costs) header.boards job_passed

  -- load − surplus is not below 0
  pub after_is : (i : ℕ) → i < ring.n
      → pos (nat_abs (pos (each (job_of s).loads i) -ℤ each_ℤ (job_of s).surpluses i)) ≡ pos (each (job_of s).loads i) -ℤ each_ℤ (job_of s).surpluses i
  after_is i h = (job_passed.sane i h).after_is

  -- the ring's surplus is the job's
  pub surplus_is : (i : ℕ) → i < ring.n → surplus (ring_in (number_of ring.kind) ring.n (job_of s).loads (job_of s).surpluses (job_of s).costs) i ≡ each_ℤ (job_of s).surpluses i
  surplus_is i h = taken_off (pos (each (job_of s).loads i)) (each_ℤ (job_of s).surpluses i) _ (after_is i h)

  pub arrays : (length (job_of s).loads ≡ 128) × (length (job_of s).surpluses ≡ 128) × (length (job_of s).costs ≡ 128)
  arrays = lengths s ring head_ring (job_of s) job_beside
