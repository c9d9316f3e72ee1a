-- From bytes to bytes: what `plan` answers and leaves, by its contract, for every job and every lent buffer. Each statement stands under
-- the words of document 01 that it is. Assumes nothing.
use Rattle.std.proofs.Common.{◌≡◌, refl, sym, ap, subst, ◌∙◌, List, ◌++◌, ℕ, ◌+◌, ◌*◌, ◌≤◌, ◌<◌, pos, ◌-ℤ◌, length, take, drop, length-append, length-drop, Result, Ok, Err, arith}
use lib.Seq.{drop_at}
use borrow.Author.Tests.{lt-ltb, le-ltb}
use Rattle.ring.specs.Numbers.{sum}
use Rattle.ring.specs.Boards.{Ring, Accepted}
use Rattle.ring.specs.Lists.{EachTwo, each, each_ℤ}
use Rattle.ring.specs.Schedule.{Send, Valid, load_at, finish}
use Rattle.ring.specs.Plan.{offset, link_sends, carries, plan, finish_of, moves, tight}
use Rattle.ring.specs.Bytes.{InOrder, plan_head, records_of}
use Rattle.ring.proofs.Offset.{fits}
use Rattle.ring.proofs.Bounds.{moves_most}
use Rattle.ring.proofs.Demand3.{plan_is_valid, finish_is, none_sooner, moves_is, in_order, ends_with, finish_fits}
use Rattle.hop.specs.declared.Shape.{Shape}
use Rattle.hop.specs.declared.Job.{Job}
use Rattle.hop.specs.declared.refusals.Refusal.{Refusal}
use Rattle.hop.specs.declared.refusals.Refusal.TheVariants.{NoRoom}
use Rattle.hop.specs.Read.{job_of}
use Rattle.hop.proofs.Accepted.{job_accepted, after_is}
use Rattle.planner.specs.declared.Planned.{Planned}
use Rattle.planner.specs.PlanBytes.{plan_bytes, plan_length, finish_in, moves_in, plan_in}
use Rattle.planner.specs.Answer.{answer_for, memory_for, ring_for, plan_answer, plan_memory}
use Rattle.planner.proofs.Bytes.{head_long, records_long, link_begins}
use Rattle.planner.proofs.ReadBack.{fitting, finish_back, moves_back, plan_back}
use Rattle.planner.proofs.Reading.{answer_known, memory_known}

-- the numbers of a ring's plan
abbrev pub numbers_of : Ring → Planned
numbers_of r = record { finish = finish_of r (offset r); moves = moves r (offset r); tight = tight r (offset r) }

-- the answer p, and the buffer ys that held xs, where the job is ring r and the buffer has room for its plan. `plan_in ys` are the sends
-- that the buffer's bytes say
pub record Closed (job : Job) (r : Ring) (xs ys : List ℕ) (p : Result Planned Refusal) : Type 0 where
  -- "it returns .. finish, moves and tight link (planner and query)"
  pub answer : p ≡ Ok (numbers_of r)
  -- "Plan: mark "PLN", version (16 bits, value 1), kind (1), n (1), finish (32), moves (32)"
  pub head : take 15 ys ≡ plan_head r.kind r.n (finish_of r (offset r)) (moves r (offset r))
  -- "then a record for each send": the records say the sends of section "The plan"
  pub sends : plan_in ys ≡ plan r (offset r)
  -- "The sends of link i begin at byte 15 + 6 × the sends of all lower links."
  pub begins : (i : ℕ) → i < r.n → take (6 * carries r (offset r) i) (drop (15 + 6 * sum (carries r (offset r)) i) ys) ≡ records_of (link_sends r (offset r) i (carries r (offset r) i))
  -- "Records go by link upward, then by start upward, then by direction, forward first."
  pub in_order : EachTwo InOrder (plan_in ys)
  -- "A valid schedule": all its rules
  pub valid : Valid r (plan_in ys)
  -- "after all sends each board has load − surplus": those of the job
  pub left : (t : ℕ) → finish r (plan_in ys) ≤ t → (i : ℕ) → i < r.n → pos (load_at r (plan_in ys) i t) ≡ pos (each job.loads i) -ℤ each_ℤ job.surpluses i
  -- "The finish is the largest end": it is the finish that the bytes say
  pub ends : finish r (plan_in ys) ≡ finish_in ys
  -- "the least finish time": no valid schedule of the ring ends sooner
  pub none_before : (σ : List Send) → Valid r σ → finish r (plan_in ys) ≤ finish r σ
  -- "an invented move or send count (.. it is the number of records)"
  pub counted : moves_in ys ≡ length (plan r (offset r))
  -- "Success changes only the bytes or places of the result"
  pub rest : drop (plan_length r) ys ≡ drop (plan_length r) xs
  pub long : length ys ≡ length xs

-- the ring's loads after are the job's loads less its surpluses
abbrev Left : Job → Ring → Type 0
Left job r = (i : ℕ) → i < r.n → pos (r.after i) ≡ pos (each job.loads i) -ℤ each_ℤ job.surpluses i

-- "Length 15 + 6 × moves."
pub bytes_long : (r : Ring) → Accepted r → length (plan_bytes r) ≡ 15 + 6 * moves r (offset r)
bytes_long r ok = simp (length-append, head_long, records_long, moves_is r ok)

module _ (r : Ring) (ok : Accepted r) (xs : List ℕ) where
  few : moves r (offset r) < 4294967296
  few = omega (arith, moves_most r ok (offset r) (fits r ok))

  -- the bytes of a plan, and then what was there
  laid : (job : Job) → Left job r → plan_length r ≤ length xs → Closed job r xs (plan_bytes r ++ drop (plan_length r) xs) (Ok (numbers_of r))
  unfolding plan_head
  laid job after room =
      let tail = drop (plan_length r) xs in
      let soon = finish_fits r ok in
      let good = plan_is_valid r ok in
      let back = plan_back r (fitting r (omega (arith, ok.boards)) (plan r (offset r)) good.allowed (omega (arith, finish_is r ok))) tail few in
      record {
        answer = refl;
        head = refl;
        sends = back;
        begins = link_begins r tail;
        in_order = subst (EachTwo InOrder) (sym back) (in_order r ok);
        valid = subst (Valid r) (sym back) good;
        left = rw back (λ t h i l. ap pos (ends_with r ok (plan r (offset r)) good t h i l) ∙ after i l);
        ends = ap (finish r) back ∙ finish_is r ok ∙ sym (finish_back r tail soon.1);
        none_before = λ σ v. rw back (none_sooner r ok σ v);
        counted = moves_back r tail few ∙ sym (moves_is r ok);
        rest = drop_at (plan_bytes r) tail (plan_length r) (bytes_long r ok);
        long = length-append (plan_bytes r) tail ∙ omega (arith, bytes_long r ok, length-drop (plan_length r) xs);
      }

  has_room : plan_length r ≤ length xs → answer_for r (length xs) ≡ Ok (numbers_of r)
  has_room room = rw (le-ltb 4294967295 (finish_of r (offset r)) (omega (arith, finish_fits r ok)), le-ltb (length xs) (plan_length r) room)

  short : length xs < plan_length r → answer_for r (length xs) ≡ Err NoRoom
  short room = rw (le-ltb 4294967295 (finish_of r (offset r)) (omega (arith, finish_fits r ok)), lt-ltb (length xs) (plan_length r) room)

module _ (s xs : List ℕ) where
  module _ (shape : Shape) (read : (job_of s).answer ≡ Ok shape) where
    -- an accepted job, and a buffer with room
    pub closed : plan_length (ring_for (job_of s) shape) ≤ length xs → Closed (job_of s) (ring_for (job_of s) shape) xs (plan_memory (job_of s) xs) (plan_answer (job_of s) (length xs))
    closed room =
        let r = ring_for (job_of s) shape in
        let ok = job_accepted s shape read in
        let a = has_room r ok xs room in
        let p : plan_answer (job_of s) (length xs) ≡ Ok (numbers_of r) = sym (answer_known s (job_of s) refl (Ok shape) read (length xs)) ∙ a in
        let m : plan_memory (job_of s) xs ≡ plan_bytes r ++ drop (plan_length r) xs = sym (memory_known s (job_of s) refl (Ok shape) read xs) ∙ ap (λ (q : Result Planned Refusal). memory_for r q xs) a in
        subst (λ (q : Result Planned Refusal). Closed (job_of s) r xs (plan_memory (job_of s) xs) q) (sym p)
        (subst (λ (ys : List ℕ). Closed (job_of s) r xs ys (Ok (numbers_of r))) (sym m) (laid r ok xs (job_of s) (after_is s shape read) room))

    -- "13: result longer than the lent byte buffer"; "every lent buffer keeps its bytes"
    pub no_room : length xs < plan_length (ring_for (job_of s) shape) → (plan_answer (job_of s) (length xs) ≡ Err NoRoom) × (plan_memory (job_of s) xs ≡ xs)
    no_room room =
        let r = ring_for (job_of s) shape in
        let a = short r (job_accepted s shape read) xs room in
        (sym (answer_known s (job_of s) refl (Ok shape) read (length xs)) ∙ a, sym (memory_known s (job_of s) refl (Ok shape) read xs) ∙ ap (λ (q : Result Planned Refusal). memory_for r q xs) a)

  -- "A refused job stops the planner at once with that number."
  pub stops : (refusal : Refusal) → (job_of s).answer ≡ Err refusal → (plan_answer (job_of s) (length xs) ≡ Err refusal) × (plan_memory (job_of s) xs ≡ xs)
  stops refusal read =
      (sym (answer_known s (job_of s) refl (Err refusal) read (length xs)), sym (memory_known s (job_of s) refl (Err refusal) read xs))
