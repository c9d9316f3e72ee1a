-- What was written is read back: a number, a send, the sends, the finish and the moves. Assumes nothing.
use Rattle.std.proofs.Common.{◌≡◌, refl, ap, ◌∙◌, sym, List, [], ◌∷◌, ◌++◌, append_assoc, ⊎_elim, ℕ, ◌*◌, ◌≤◌, ◌<◌, zero, suc, ◌+◌, arith, length, take, get_or}
use lib.Seq.{take-length, get_or-append-add}
use Rattle.ring.specs.Lists.{Each}
use Rattle.ring.specs.Boards.{Ring}
use Rattle.ring.specs.Schedule.{Send, Allowed, finish}
use Rattle.ring.specs.Plan.{offset, plan, finish_of, moves}
use Rattle.ring.specs.Bytes.{word_at, word_bytes, send_bytes, records_of, plan_head}
use Rattle.planner.specs.PlanBytes.{plan_bytes, finish_in, moves_in, plan_in, record_place, record_at, records_in}
use Rattle.planner.proofs.Bytes.{send_long, head_long}
use Rattle.planner.proofs.Parts.{word_same}
use Rattle.ring.proofs.Moves.{as_many}
use Rattle.ring.proofs.Joined.{joined_same, first_of}

-- a number of 32 bits
pub word_back : (x : ℕ) → x < 4294967296 → word_at (word_bytes x) 0 ≡ x
word_back x h = omega arith

-- a send that a record has room for
pub record Fitting (s : Send) : Type 0 where
  pub link : s.link < 256
  pub direction : s.direction < 256
  pub start : s.start < 4294967296

-- the sends of a schedule that ends in time
pub fitting : (r : Ring) → r.n ≤ 256 → (σ : List Send) → Each (Allowed r) σ → finish r σ < 4294967296 → Each Fitting σ
unfolding finish
fitting r few [] a f = tt
fitting r few (s ∷ σ) a f =
    let direction : s.direction < 256 = ⊎_elim (λ e. omega arith) (λ e. omega arith) a.0.1 in
    (record { link = omega arith; direction = direction; start = omega arith }, fitting r few σ a.1 (omega arith))

-- no send
abbrev none : Send
none = record { link = 0; direction = 0; start = 0 }

-- each of a list, by its place
each_at : (P : Send → Type 0) (σ : List Send) → Each P σ → (k : ℕ) → k < length σ → P (get_or σ k none)
each_at P [] h k l = absurd (omega arith)
each_at P (s ∷ σ) h zero l = h.0
each_at P (s ∷ σ) h (suc k) l = each_at P σ h.1 k (omega arith)

-- a record that stands behind n bytes
behind : (xs ys : List ℕ) (n at : ℕ) → length xs ≡ n → record_at (xs ++ ys) (n + at) ≡ record_at ys at
behind xs ys n at e =
    λ t. record {
      link = by (n + at) at refl t;
      direction = by (n + at + 1) (at + 1) (omega arith) t;
      start = word_same (xs ++ ys) ys (n + at + 2) (at + 2) (λ d l. by (n + at + 2 + d) (at + 2 + d) (omega arith)) t;
    }
  where
    by : (a b : ℕ) → a ≡ n + b → get_or (xs ++ ys) a 0 ≡ get_or ys b 0
    by a b p = let q : a ≡ length xs + b = omega arith in rw q (get_or-append-add xs ys b 0)

record_at_read : (σ : List Send) → Each Fitting σ → (rest : List ℕ) (k : ℕ) → k < length σ → record_at (records_of σ ++ rest) (6 * k) ≡ get_or σ k none
unfolding records_of send_bytes
record_at_read [] h rest k l = absurd (omega arith)
record_at_read (s ∷ σ) h rest zero l = λ t. record { link = s.link; direction = s.direction; start = word_back s.start h.0.start t }
record_at_read (s ∷ σ) h rest (suc k) l =
    let e : 6 * suc k ≡ 6 + 6 * k = omega arith in
    rw (e, append_assoc (send_bytes s) (records_of σ) rest) (behind (send_bytes s) (records_of σ ++ rest) 6 (6 * k) (send_long s) ∙ record_at_read σ h.1 rest k (omega arith))

module _ (r : Ring) (rest : List ℕ) where
  pub finish_back : finish_of r (offset r) < 4294967296 → finish_in (plan_bytes r ++ rest) ≡ finish_of r (offset r)
  unfolding plan_head
  finish_back h = word_back (finish_of r (offset r)) h

  pub moves_back : moves r (offset r) < 4294967296 → moves_in (plan_bytes r ++ rest) ≡ moves r (offset r)
  unfolding plan_head
  moves_back h = word_back (moves r (offset r)) h

module _ (r : Ring) (fit : Each Fitting (plan r (offset r))) (rest : List ℕ) where
  record_is : (k : ℕ) → k < moves r (offset r) → record_at (plan_bytes r ++ rest) (record_place k) ≡ get_or (plan r (offset r)) k none
  record_is k h =
      let head = plan_head r.kind r.n (finish_of r (offset r)) (moves r (offset r)) in
      rw (append_assoc head (records_of (plan r (offset r))) rest)
      (behind head (records_of (plan r (offset r)) ++ rest) 15 (6 * k) (head_long r.kind r.n (finish_of r (offset r)) (moves r (offset r))) ∙ record_at_read (plan r (offset r)) fit rest k (omega (arith, as_many r (offset r))))

  pub plan_read : records_in (plan_bytes r ++ rest) (moves r (offset r)) ≡ plan r (offset r)
  plan_read =
      joined_same _ (λ j. get_or (plan r (offset r)) j none ∷ []) (moves r (offset r)) (λ k h t. record_is k h t ∷ [])
      ∙ sym (first_of none (moves r (offset r)) (plan r (offset r)) (omega (arith, as_many r (offset r)))) ∙ ap (λ (k : ℕ). take k (plan r (offset r))) (sym (as_many r (offset r))) ∙ take-length (plan r (offset r))

  pub link_read : Each (Allowed r) (plan r (offset r)) → (k : ℕ) → k < moves r (offset r) → get_or (plan_bytes r ++ rest) (record_place k) 0 < r.n
  link_read allowed k h = rw (ap (λ (s : Send). s.link) (record_is k h)) (each_at (Allowed r) (plan r (offset r)) allowed k (omega (arith, as_many r (offset r)))).0

  pub plan_back : moves r (offset r) < 4294967296 → plan_in (plan_bytes r ++ rest) ≡ plan r (offset r)
  plan_back few = ap (records_in (plan_bytes r ++ rest)) (moves_back r rest few) ∙ plan_read
