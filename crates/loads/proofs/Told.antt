-- What is known once a job's plan stands in the buffer: each record's link is the ring's, the counts of its records are those of the
-- plan's sends, no board has sent more than it had and received, and the differences are the loads. Assumes nothing.
use mathlib.Core.Path.{◌≡◌, refl, sym, ap, ◌∙◌}
use mathlib.Core.List.{List, [], ◌∷◌, ◌++◌}
use Prim.Native.Nat.{ℕ, zero, suc, ◌≤◌, ◌<◌}
use native.Mathlib.Omega.{arith}
use lib.Dec.{eqb, leb}
use lib.IntN.{ℤ}
use lib.ListN.{length, get_or, set, drop, length-append}
use lib.Seq.{drop-cons, set-append_seam}
use Rattle.std.proofs.lemmas.List.{append_assoc}
use Rattle.ring.specs.Numbers.{both}
use Rattle.ring.specs.Lists.{Each, joined, up_to, fill}
use Rattle.ring.specs.Boards.{ring_in, Accepted}
use Rattle.ring.specs.Schedule.{receiver, ends, load_at}
use Rattle.ring.specs.Plan.{offset, plan, moves}
use Rattle.ring.proofs.Offset.{fits}
use Rattle.ring.proofs.Best.{valid, ends_at}
use Rattle.ring.proofs.Conserve.{never_below}
use Rattle.ring.proofs.Bounds.{moves_most, finish_most}
use Rattle.ring.proofs.Moves.{as_many}
use Rattle.std.specs.Prelude.{Result, Ok}
use Rattle.hop.specs.declared.Shape.{Shape}
use Rattle.hop.specs.declared.refusals.Refusal.{Refusal}
use Rattle.hop.specs.declared.Job.{Job}
use Rattle.hop.specs.Kinds.{number_of}
use Rattle.hop.specs.Read.{job_of}
use Rattle.ring.proofs.Fill.{fill_same}
use Rattle.hop.proofs.Accepted.{job_accepted, arrays}
use Rattle.planner.specs.declared.Planned.{Planned}
use Rattle.planner.specs.PlanBytes.{plan_bytes, plan_length, record_place, records_in}
use Rattle.planner.specs.Answer.{memory_for, ring_for, answer_by, memory_by, plan_answer, plan_memory}
use Rattle.planner.proofs.Answers.{through}
use Rattle.planner.proofs.Reading.{planned_of}
use Rattle.planner.proofs.Bytes.{head_long, records_long}
use Rattle.planner.proofs.ReadBack.{Fitting, fitting, plan_read, link_read}
use Rattle.loads.specs.declared.Count.{Count}
use Rattle.loads.specs.Counts.{links_in, Counted, left_with, Covered}
use Rattle.loads.specs.Query.{boards_of, loads_by}
use Rattle.loads.proofs.Counted.{up_to_long, count_most}

-- values in the first places of a list, and then what was there
pub filled : (g : ℕ → ℕ) (k : ℕ) (xs : List ℕ) → k ≤ length xs → up_to g k ++ drop k xs ≡ fill g k xs
unfolding joined fill
filled g zero xs h = refl
filled g (suc k) xs h =
    append_assoc (up_to g k) (g k ∷ []) (drop (suc k) xs)
    ∙ (sym (set-append_seam (up_to g k) (get_or xs k 0) (drop (suc k) xs) (g k))
    ∙ ((λ t. set (up_to g k ++ sym (drop-cons xs k 0 (omega arith)) t) (up_to_long g k t) (g k)) ∙ ap (λ (ys : List ℕ). set ys k (g k)) (filled g k xs (omega arith))))

-- what was counted for n boards of these loads: none has sent more than it had and received, and the differences are the list that `whole` makes
pub record Differ (n : ℕ) (loads : List ℕ) (whole : List ℕ → List ℕ) (counts : List Count) : Type 0 where
  pub covered : Covered n loads counts
  pub told : (ys : List ℕ) → fill (left_with loads counts) n ys ≡ whole ys

-- m records in a buffer, for n boards of these loads and costs
pub record Told (n : ℕ) (loads costs buf : List ℕ) (m tick : ℕ) (whole : List ℕ → List ℕ) : Type 0 where
  pub few : n ≤ 128
  pub costs_long : length costs ≡ 128
  pub placed : record_place m ≤ length buf
  pub linked : (i : ℕ) → i < m → get_or buf (record_place i) 0 < n
  pub differ : {counts : List Count} → Counted (links_in n costs) (records_in buf m) tick counts → Differ n loads whole counts

-- of a ring's lists
module _ (kind n : ℕ) (loads : List ℕ) (surpluses : List ℤ) (costs : List ℕ) (ok : Accepted (ring_in kind n loads surpluses costs)) (rest : List ℕ) (tick : ℕ) where
  fit : Each Fitting (plan (ring_in kind n loads surpluses costs) (offset (ring_in kind n loads surpluses costs)))
  fit =
      let r = ring_in kind n loads surpluses costs in
      fitting r (omega (arith, ok.boards)) (plan r (offset r)) (valid r (offset r) ok (fits r ok)).allowed (omega (arith, ends_at r (offset r) ok (fits r ok), finish_most r ok (offset r) (fits r ok)))

  differ_ring : {counts : List Count} → let r = ring_in kind n loads surpluses costs in Counted (links_in n costs) (plan r (offset r)) tick counts
      → Differ n loads (fill (λ i. load_at r (plan r (offset r)) i tick) n) counts
  unfolding load_at
  differ_ring c =
      let r = ring_in kind n loads surpluses costs in
      let σ = plan r (offset r) in
      record {
        covered = record {
          small = λ i h. omega (arith, c.received i h, ok.loads i h, as_many r (offset r), moves_most r ok (offset r) (fits r ok), count_most (λ x. both (eqb (receiver r x) i) (leb (ends r x) tick)) σ);
          enough = λ i h. omega (arith, c.received i h, c.sent i h, never_below r ok σ (valid r (offset r) ok (fits r ok)) i tick);
        };
        told = λ ys. fill_same _ (λ i. load_at r σ i tick) n ys (record { at = λ i h. omega (arith, c.received i h, c.sent i h) });
      }

  told_ring : length costs ≡ 128 → let r = ring_in kind n loads surpluses costs in Told n loads costs (plan_bytes r ++ rest) (moves r (offset r)) tick (fill (λ i. load_at r (plan r (offset r)) i tick) n)
  told_ring cl =
      let r = ring_in kind n loads surpluses costs in
      record {
        few = ok.boards.1;
        costs_long = cl;
        placed = simp (length-append, head_long, records_long, as_many r (offset r)) (omega arith);
        linked = link_read r fit rest (valid r (offset r) ok (fits r ok)).allowed;
        differ = λ c. differ_ring (rw (plan_read r fit rest) at c);
      }

-- a plan of a ring that was read: its moves, and its bytes in the buffer
record Written (job : Job) (shape : Shape) (m : ℕ) (xs : List ℕ) : Type 0 where
  pub moves_is : moves (ring_for job shape) (offset (ring_for job shape)) ≡ m
  pub bytes : plan_memory job xs ≡ plan_bytes (ring_for job shape) ++ drop (plan_length (ring_for job shape)) xs

written : (job : Job) (xs : List ℕ) {shape : Shape} {p : Planned} → job.answer ≡ Ok shape → plan_answer job (length xs) ≡ Ok p → Written job shape p.moves xs
unfolding plan_answer plan_memory
written job xs {shape} {p} is e =
    let r = ring_for job shape in
    let a = ap (answer_by job (length xs)) (sym is) in
    record {
      moves_is = sym (through r (length xs) p (a ∙ e)).moved;
      bytes = ap (memory_by job xs) is ∙ ap (λ (q : Result Planned Refusal). memory_for r q xs) (a ∙ e);
    }

-- of a job that is read and planned
module _ (s xs : List ℕ) (tick : ℕ) {planned : Planned} (e : plan_answer (job_of s) (length xs) ≡ Ok planned) {j : Job} (p : j ≡ job_of s) {buf : List ℕ} (q : buf ≡ plan_memory (job_of s) xs) {n : ℕ} (b : n ≡ boards_of (job_of s).answer) where
  abbrev Known : Type 0
  Known = Told n j.loads j.costs buf planned.moves tick (loads_by (job_of s) (job_of s).answer tick)

  told_read : (shape : Shape) → (job_of s).answer ≡ Ok shape → Known
  told_read shape is =
      let w = written (job_of s) xs is e in
      rw (b, p, q, w.bytes, ← w.moves_is, is)
      (told_ring (number_of shape.kind) shape.n (job_of s).loads (job_of s).surpluses (job_of s).costs (job_accepted s shape is) _ tick (arrays s shape is).2)

  pub told : Known
  told = let of = planned_of (job_of s) (length xs) e in told_read of.shape of.read
