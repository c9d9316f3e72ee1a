-- The bytes of a job as they are written, board by board. Assumes nothing.
use mathlib.Core.Path.{◌≡◌, refl, sym, ap, ◌∙◌}
use mathlib.Core.List.{List, ◌++◌}
use Prim.Native.Nat.{ℕ, ◌+◌, ◌*◌, ◌-◌, ◌≤◌}
use native.Mathlib.Omega.{arith}
use lib.ListN.{length, drop}
use lib.Seq.{drop-append-add, drop-drop}
use borrow.Rule.Slice.PartMut.{put_mid, mid_of}
use Rattle.ring.specs.Lists.{joined}
use Rattle.hop.specs.Read.{job_length}
use Rattle.hop.specs.Write.{head_bytes}
use Rattle.hop.proofs.Grow.{Begins, more}

module _ (xs ys : List ℕ) (kind n : ℕ) (g : ℕ → List ℕ) (wrote : ys ≡ head_bytes kind n ++ drop 7 xs) where
  -- no board yet
  pub front : Begins ys (head_bytes kind n ++ joined g 0) (job_length 0) ys
  unfolding joined
  front = record { is = wrote ∙ ap (λ (r : List ℕ). head_bytes kind n ++ r) (sym (ap (drop 7) wrote)); long = refl; same = refl }

  -- all of them
  pub whole : (now : List ℕ) → Begins ys (head_bytes kind n ++ joined g n) (job_length n) now → now ≡ (head_bytes kind n ++ joined g n) ++ drop (job_length n) xs
  whole now b =
      b.is
      ∙ ap (λ (r : List ℕ). (head_bytes kind n ++ joined g n) ++ r)
      (ap (drop (job_length n)) wrote ∙ drop-append-add (head_bytes kind n) (drop 7 xs) (6 * n) ∙ drop-drop (6 * n) 7 xs)

-- one board more
pub next : (ys p : List ℕ) (g : ℕ → List ℕ) (i at : ℕ) (now part : List ℕ) → Begins ys (p ++ joined g i) (job_length i) now → at ≡ job_length i → job_length i + 6 ≤ length ys
    → part ≡ g i ++ drop 6 (mid_of at (length now - at) now) → length (g i) ≡ 6 → Begins ys (p ++ joined g (i + 1)) (job_length (i + 1)) (put_mid at (length now - at) now part)
next ys p g i at now part b e fits wrote long =
    let q : at + 6 ≡ job_length (i + 1) = omega arith in
    rw q at (more p g i 6 part (rw (← e) at b) long (omega arith) wrote)
