-- A job that is read as a ring has the bytes that the writer writes of it. Assumes nothing.
use mathlib.Core.Path.{◌≡◌, refl, sym, ap, ◌∙◌}
use mathlib.Core.List.{List, [], ◌∷◌, ◌++◌}
use Prim.Native.Nat.{ℕ, zero, suc, ◌+◌, ◌*◌, ◌/◌, ◌%◌, ◌≤◌, ◌<◌}
use native.Mathlib.Omega.{arith}
use lib.ListN.{length, get_or, take, drop, length-drop}
use lib.Seq.{take-add, take-length, get_or-drop}
use mir.Syntax.{w16}
use mir.Val.{to_z, of_z}
use mir.Facts.{of_z-to_z}
use Rattle.ring.specs.Lists.{joined}
use Rattle.ring.specs.Bytes.{half_at, half_bytes}
use Rattle.hop.specs.Read.{job_length, load_in, surplus_in, cost_in}
use Rattle.hop.specs.Write.{head_bytes, board_bytes, job_bytes}
use Rattle.hop.specs.Lawful.{Headed}
use Rattle.ring.proofs.Joined.{first_of}

two : (a b : ℕ) → a < 256 → b < 256 → half_bytes (a * 256 + b) ≡ a ∷ b ∷ []
two a b ha hb =
    let p : (a * 256 + b) / 256 % 256 ≡ a = omega arith in
    let q : (a * 256 + b) % 256 ≡ b = omega arith in
    λ t. p t ∷ q t ∷ []

module _ (s : List ℕ) (bytes : (i : ℕ) → get_or s i 0 < 256) where
  half_bytes_put : (p : ℕ) → half_bytes (half_at s p) ≡ get_or s p 0 ∷ get_or s (p + 1) 0 ∷ []
  half_bytes_put p = two (get_or s p 0) (get_or s (p + 1) 0) (bytes p) (bytes (p + 1))

  -- the six bytes of board i
  record_bytes_put : (i : ℕ) → job_length i + 6 ≤ length s → board_bytes (load_in s) (surplus_in s) (cost_in s) i ≡ take 6 (drop (job_length i) s)
  unfolding joined
  record_bytes_put i h =
      let p = job_length i in
      let z : of_z w16 (to_z w16 (half_at s (p + 2))) ≡ half_at s (p + 2) = of_z-to_z {w = w16} (record { fits = omega (arith, bytes (p + 2), bytes (p + 2 + 1)) }) in
      let at : (m j : ℕ) → m ≡ p + j → get_or s m 0 ≡ get_or (drop p s) j 0 = λ m j e. ap (λ (x : ℕ). get_or s x 0) e ∙ sym (get_or-drop p s j 0) in
      (λ t. half_bytes_put p t ++ (ap half_bytes z ∙ half_bytes_put (p + 2)) t ++ half_bytes_put (p + 4) t)
      ∙ (λ t. at p 0 (omega arith) t ∷ at (p + 1) 1 refl t ∷ at (p + 2) 2 refl t ∷ at (p + 2 + 1) 3 (omega arith) t ∷ at (p + 4) 4 refl t ∷ at (p + 4 + 1) 5 (omega arith) t ∷ [])
      ∙ sym (first_of 0 6 (drop p s) (simp length-drop (omega arith)))

  module _ (k n : ℕ) (h : Headed s k n) where
    head_bytes_put : head_bytes k n ≡ take 7 s
    unfolding joined
    head_bytes_put =
        let zero_is : 0 ≡ get_or s 3 0 = omega (arith, h.version) in
        let one-is : 1 ≡ get_or s 4 0 = omega (arith, h.version) in
        (λ t. sym h.h t ∷ sym h.o t ∷ sym h.p t ∷ zero_is t ∷ one-is t ∷ sym h.kind_is t ∷ sym h.n_is t ∷ [])
        ∙ sym (first_of 0 7 s (omega (arith, h.whole)))

    up_to : (i : ℕ) → i ≤ n → head_bytes k n ++ joined (board_bytes (load_in s) (surplus_in s) (cost_in s)) i ≡ take (job_length i) s
    unfolding joined
    up_to zero l = head_bytes_put
    up_to (suc i) l =
        let q : job_length i + 6 ≡ job_length (suc i) = omega arith in
        (λ t. up_to i (omega arith) t ++ record_bytes_put i (omega (arith, h.whole)) t) ∙ sym (take-add (job_length i) 6 s) ∙ ap (λ (m : ℕ). take m s) q

    pub same_bytes : job_bytes k n (load_in s) (surplus_in s) (cost_in s) ≡ s
    unfolding job_bytes
    same_bytes = up_to n (omega arith) ∙ ap (λ (m : ℕ). take m s) (sym h.whole) ∙ take-length s
