-- How many bytes a plan's parts have, and its records as pieces, link by link. Assumes nothing.
use Rattle.std.proofs.Common.{◌≡◌, refl, sym, ap, ◌∙◌, List, [], ◌∷◌, ◌++◌, append_assoc, append-nil, ℕ, zero, suc, ◌+◌, ◌*◌, ◌-◌, ◌/◌, ◌<◌, arith, length, take, drop, length-append}
use native.Mathlib.Nat.{div-div-eq-div-mul}
use lib.Seq.{take_at, drop_at}
use Rattle.ring.specs.Numbers.{sum}
use Rattle.ring.specs.Lists.{joined}
use Rattle.ring.specs.Boards.{Ring}
use Rattle.ring.specs.Schedule.{Send}
use Rattle.ring.specs.Plan.{offset, plan, send_of, direction_of, start_of, link_sends, carries, finish_of, moves}
use Rattle.ring.proofs.Joined.{joined_same, joined_add}
use Rattle.hop.proofs.Pieces.{joined_long}
use Rattle.ring.specs.Bytes.{send_bytes, records_of, plan_head}
use Rattle.planner.specs.PlanBytes.{plan_bytes}
use Rattle.planner.specs.Links.{link_bytes}

-- the highest of a number's four bytes, as the code has it
pub high_byte : (x : ℕ) → x / 65536 / 256 ≡ x / 16777216
high_byte x = div-div-eq-div-mul x 65536 256

pub send_long : (s : Send) → length (send_bytes s) ≡ 6
unfolding send_bytes
send_long s = refl

pub link_long : (link direction : ℕ) (start : ℕ → ℕ) (k : ℕ) → length (link_bytes link direction start k) ≡ 6 * k
link_long link direction start k = joined_long (λ x. send_bytes (record { link = link; direction = direction; start = start x })) (λ x. send_long _) k

pub head_long : (kind n finish moves : ℕ) → length (plan_head kind n finish moves) ≡ 15
unfolding plan_head
head_long kind n finish moves = refl

pub records_long : (σ : List Send) → length (records_of σ) ≡ 6 * length σ
unfolding records_of
records_long [] = refl
records_long (s ∷ σ) = simp (length-append, send_long, records_long σ) (omega arith)

pub records_append : (σ τ : List Send) → records_of (σ ++ τ) ≡ records_of σ ++ records_of τ
unfolding records_of
records_append [] τ = refl
records_append (s ∷ σ) τ = rw (records_append σ τ) (sym (append_assoc (send_bytes s) (records_of σ) (records_of τ)))

pub records_joined : (g : ℕ → List Send) (k : ℕ) → records_of (joined g k) ≡ joined (λ i. records_of (g i)) k
unfolding joined records_of
records_joined g zero = refl
records_joined g (suc k) = records_append (joined g k) (g k) ∙ ap (λ (l : List ℕ). l ++ records_of (g k)) (records_joined g k)

-- the records of a list that is given send by send
pub records_each : (s : ℕ → Send) (k : ℕ) → records_of (joined (λ j. s j ∷ []) k) ≡ joined (λ j. send_bytes (s j)) k
unfolding records_of
records_each s k = records_joined (λ j. s j ∷ []) k ∙ joined_same _ _ k (λ j h. append-nil (send_bytes (s j)))

-- the records of a plan: link by link, send by send
pub records_plan : (r : Ring) (o : ℕ) → records_of (plan r o) ≡ joined (λ i. joined (λ j. send_bytes (send_of r o i (suc j))) (carries r o i)) r.n
records_plan r o = records_joined (λ i. link_sends r o i (carries r o i)) r.n ∙ joined_same _ _ r.n (λ i h. records_each (λ j. send_of r o i (suc j)) (carries r o i))

-- pieces of six bytes for each of w's
pieces_long : (g : ℕ → List ℕ) (w : ℕ → ℕ) → ((i : ℕ) → length (g i) ≡ 6 * w i) → (k : ℕ) → length (joined g k) ≡ 6 * sum w k
unfolding joined sum
pieces_long g w long zero = refl
pieces_long g w long (suc k) = simp (length-append, long, pieces_long g w long k) (omega arith)

-- the records of a link in the plan's bytes: after the head and the records of all lower links
module _ (r : Ring) (rest : List ℕ) (i : ℕ) (h : i < r.n) where
  abbrev piece : ℕ → List ℕ
  piece k = records_of (link_sends r (offset r) k (carries r (offset r) k))

  piece_long : (k : ℕ) → length (piece k) ≡ 6 * carries r (offset r) k
  piece_long k = ap (λ (l : List ℕ). length l) (records_each (λ j. send_of r (offset r) k (suc j)) (carries r (offset r) k)) ∙ link_long k (direction_of r (offset r) k) (λ x. start_of r (offset r) k (suc x)) (carries r (offset r) k)

  pub link_begins : take (6 * carries r (offset r) i) (drop (15 + 6 * sum (carries r (offset r)) i) (plan_bytes r ++ rest)) ≡ records_of (link_sends r (offset r) i (carries r (offset r) i))
  unfolding joined
  link_begins =
      let head = plan_head r.kind r.n (finish_of r (offset r)) (moves r (offset r)) in
      let later = joined (λ x. piece (suc i + x)) (r.n - suc i) in
      let n : r.n ≡ suc i + (r.n - suc i) = omega arith in
      let split : records_of (plan r (offset r)) ≡ (joined piece i ++ piece i) ++ later =
      records_joined (λ k. link_sends r (offset r) k (carries r (offset r) k)) r.n ∙ ap (joined piece) n ∙ joined_add piece (suc i) (r.n - suc i) in
      let e : plan_bytes r ++ rest ≡ (head ++ joined piece i) ++ (piece i ++ (later ++ rest)) = rw split (simp append_assoc) in
      let long : length (head ++ joined piece i) ≡ 15 + 6 * sum (carries r (offset r)) i =
      simp (length-append, head_long, pieces_long piece (carries r (offset r)) piece_long i) in
      rw (e, drop_at (head ++ joined piece i) (piece i ++ (later ++ rest)) (15 + 6 * sum (carries r (offset r)) i) long)
      (take_at (piece i) (later ++ rest) (6 * carries r (offset r) i) (piece_long i))
