-- A job's bytes are read back as its kind and its numbers. Assumes nothing.
use Rattle.std.proofs.Common.{◌≡◌, refl, sym, ap, ◌∙◌, List, ◌++◌, ℕ, suc, ◌+◌, ◌*◌, ◌/◌, ◌%◌, ◌<◌, pos, negsuc, nat_abs, ◌+ℤ◌, ◌-ℤ◌, length, get_or, replicate, Ok, FitsSigned, w16, to_z, of_z, to_z-of_z, arith}
use Rattle.std.specs.Int.Signed.{mag}
use lib.IntN.{ℤ, -ℤ-+ℤ_cancel}
use lib.Seq.{get_or-append-add}
use mir.Facts.{Fits-of_z}
use Rattle.ring.specs.Lists.{joined}
use Rattle.ring.specs.Boards.{Within}
use Rattle.ring.specs.Bytes.{half_at}
use Rattle.ring.proofs.Sound.{Sane}
use Rattle.ring.proofs.Fill.{Below, fill_same}
use Rattle.hop.specs.declared.Shape.{Shape}
use Rattle.hop.specs.Kinds.{number_of}
use Rattle.hop.specs.Refusals.{ring_check}
use Rattle.hop.specs.Read.{job_length, load_in, surplus_in, cost_in, head_of, check_of, holding, beside, job_of}
use Rattle.hop.specs.Write.{head_bytes, board_bytes, job_bytes}
use Rattle.hop.specs.Lawful.{Headed}
use Rattle.hop.proofs.KindNumbers.{kind_within}
use Rattle.hop.proofs.Pieces.{joined_long, joined_at}
use Rattle.hop.proofs.Same.{check_same}
use Rattle.hop.proofs.Passed.{passed}
use Rattle.hop.proofs.Reading.{head_is}
use Rattle.hop.proofs.First.{goes}

half_back : (x : ℕ) → x < 65536 → x / 256 % 256 * 256 + x % 256 ≡ x
half_back x h = omega arith

-- a surplus between two loads has 16 bits
small : (l a : ℕ) (z : ℤ) → l < 32768 → a < 32768 → pos a ≡ pos l -ℤ z → mag z < 32768
small l a (pos m) hl ha e =
    let q : pos (a + m) ≡ pos l = ap (λ (x : ℤ). x +ℤ pos m) e ∙ -ℤ-+ℤ_cancel (pos l) (pos m) in
    let r : a + m ≡ l = cc in
    omega arith
small l a (negsuc m) hl ha e = let r : a ≡ l + suc m = cc in omega arith

-- the head's bytes, and n boards of others, are headed as they say
head_bytes_of : (kind n : ℕ) (rest : List ℕ) → Within 1 3 kind → Within 2 128 n → length rest ≡ 6 * n → Headed (head_bytes kind n ++ rest) kind n
head_bytes_of kind n rest ks bs e =
    record { h = refl; o = refl; p = refl; version = refl; kind_is = refl; n_is = refl; kinds = ks; boards = bs; whole = omega arith }

module _ (kind n : ℕ) (load : ℕ → ℕ) (surplus : ℕ → ℤ) (cost : ℕ → ℕ) where
  pub bytes_long : length (job_bytes kind n load surplus cost) ≡ job_length n
  unfolding job_bytes
  bytes_long = omega (arith, joined_long (board_bytes load surplus cost) (λ i. refl) n)

  byte_at : (m i j : ℕ) → m ≡ 7 + (6 * i + j) → i < n → j < 6 → get_or (job_bytes kind n load surplus cost) m 0 ≡ get_or (board_bytes load surplus cost i) j 0
  unfolding job_bytes
  byte_at m i j e h w =
      let g = board_bytes load surplus cost in
      rw e (get_or-append-add (head_bytes kind n) (joined g n) (6 * i + j) 0 ∙ joined_at g (λ i. refl) n i j h w)

  half_at_put : (m i j : ℕ) → m ≡ 7 + (6 * i + j) → i < n → suc j < 6
      → half_at (job_bytes kind n load surplus cost) m ≡ get_or (board_bytes load surplus cost i) j 0 * 256 + get_or (board_bytes load surplus cost i) (suc j) 0
  half_at_put m i j e h w = λ t. byte_at m i j e h (omega arith) t * 256 + byte_at (m + 1) i (suc j) (omega arith) h w t

module _ (ring : Shape) (load : ℕ → ℕ) (surplus : ℕ → ℤ) (cost : ℕ → ℕ) (bs : Within 2 128 ring.n) (is : ring_check ring load surplus cost ≡ Ok ring) where
  abbrev pub bytes : List ℕ
  bytes = job_bytes (number_of ring.kind) ring.n load surplus cost

  sane : (i : ℕ) → i < ring.n → Sane (load i) (surplus i) (cost i)
  sane i h = (passed ring load surplus cost ring is).0.sane i h

  loads_back : Below (load_in bytes) load ring.n
  loads_back = record { at = λ i h. half_at_put (number_of ring.kind) ring.n load surplus cost (job_length i) i 0 (omega arith) h (omega arith) ∙ half_back (load i) (let s = sane i h in omega arith) }

  costs_back : Below (cost_in bytes) cost ring.n
  costs_back = record { at = λ i h. half_at_put (number_of ring.kind) ring.n load surplus cost (job_length i + 4) i 4 (omega arith) h (omega arith) ∙ half_back (cost i) (let s = sane i h in omega arith) }

  surpluses_back : Below (surplus_in bytes) surplus ring.n
  surpluses_back = record {
    at = λ i h.
        let s = sane i h in
        let f : FitsSigned w16 (surplus i) = record { sfits = small (load i) (nat_abs (pos (load i) -ℤ surplus i)) (surplus i) (omega arith) (omega arith) s.after_is } in
        ap (to_z w16) (half_at_put (number_of ring.kind) ring.n load surplus cost (job_length i + 2) i 2 (omega arith) h (omega arith) ∙ half_back (of_z w16 (surplus i)) (Fits-of_z f).fits) ∙ to_z-of_z f;
  }

  head_back : head_of bytes ≡ Ok ring
  unfolding job_bytes
  head_back =
      let rest = joined (board_bytes load surplus cost) ring.n in
      head_is (head_bytes (number_of ring.kind) ring.n ++ rest) ring (head_bytes_of (number_of ring.kind) ring.n rest (kind_within ring.kind) bs (joined_long (board_bytes load surplus cost) (λ i. refl) ring.n))

  pub job_back : job_of bytes ≡ holding ring load surplus cost
  unfolding job_of check_of
  job_back =
      let s = bytes in
      let e : check_of s ≡ Ok ring =
      sym (goes (head_of s) _ ring head_back)
      ∙ check_same ring (omega arith) (load_in s) load (surplus_in s) surplus (cost_in s) cost loads_back surpluses_back costs_back
      ∙ is in
      ap (beside s) e
      ∙ (λ t. record {
        answer = Ok ring;
        loads = fill_same (load_in s) load ring.n (replicate 128 0) loads_back t;
        surpluses = fill_same (surplus_in s) surplus ring.n (replicate 128 (pos 0)) surpluses_back t;
        costs = fill_same (cost_in s) cost ring.n (replicate 128 0) costs_back t;
      })
