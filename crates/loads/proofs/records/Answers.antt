-- `loads::records` meets its contract: part k of what is cut says what record k of the plan says. Assumes nothing.
use Rattle.std.proofs.Common.{◌≡◌, [], ℕ, zero, suc, ◌+◌, ◌-◌, ◌*◌, ◌/◌, ◌<◌, ◌≤◌, List, length, take, drop, get_or, refl, ap, ◌∙◌, arith, length-take, length-drop, get_or-take, get_or-drop}
use Rattle.std.specs.Simd.{first_chunks}
use Rattle.std.proofs.lemmas.List.{drop-drop}
use Rattle.planner.specs.PlanBytes.{record_place}
use Rattle.loads.proofs.records.Goals as goal

-- part i of a list that is cut into parts of n
part_at : (n k i : ℕ) (xs : List ℕ) → i < k → get_or (first_chunks n k xs) i [] ≡ take n (drop (n * i) xs)
part_at n zero i xs h = absurd (omega arith)
part_at n (suc k) zero xs h = ap (λ (z : ℕ). take n (drop z xs)) {x = 0} {y = n * 0} (omega arith)
part_at n (suc k) (suc i) xs h = part_at n k i (drop n xs) (omega arith) ∙ (ap (take n) (drop-drop (n * i) n xs) ∙ ap (λ (z : ℕ). take n (drop z xs)) {x = n + n * i} {y = n * suc i} (omega arith))

-- its byte j
byte : (s : List ℕ) (m k : ℕ) → record_place m ≤ length s → k < m → let cut = take (record_place m - 15) (drop 15 s) in
    (j p : ℕ) → j < 6 → p ≡ record_place k + j → get_or (get_or (first_chunks 6 (length cut / 6) cut) k []) j 0 ≡ get_or s p 0
byte s m k placed below j p h e =
    let cut = take (record_place m - 15) (drop 15 s) in
    let many : length cut / 6 ≡ m = simp (length-take, length-drop) (omega arith) in
    let within : 6 * k + j < record_place m - 15 = omega arith in
    rw (part_at 6 (length cut / 6) k cut (omega arith), get_or-take, get_or-drop, get_or-take, get_or-drop) (ap (λ (x : ℕ). get_or s x 0) {x = 15 + (6 * k + j)} {y = p} (omega arith))

pub returns-clause-in_turn : goal.returns-clause-in_turn
returns-clause-in_turn c = λ k h.
    let p = record_place k in
    let b = byte c.args.plan.now c.args.moves k c.requires h in
    rw c.as_chunks.ensures.front (λ t.
    record {
      link = b 0 p (omega arith) (omega arith) t;
      direction = b 1 (p + 1) (omega arith) refl t;
      start = (b 2 (p + 2) (omega arith) refl t * 256 + b 3 (p + 2 + 1) (omega arith) (omega arith) t) * 65536 + (b 4 (p + 2 + 2) (omega arith) (omega arith) t * 256 + b 5 (p + 2 + 2 + 1) (omega arith) (omega arith) t);
    })
