-- A buffer in which a part was written over, and one whose parts stand one after the other. Assumes nothing.
use Rattle.std.proofs.Common.{◌≡◌, refl, sym, ap, ◌∙◌, List, ◌++◌, append_assoc, ℕ, zero, suc, ◌+◌, ◌*◌, ◌-◌, ◌≤◌, ◌<◌, arith, length, take, drop, get_or, length-append, length-drop, take-append-drop}
use lib.Seq.{take_at, drop_at, drop-drop, take-add, take-take, take-append-le, drop-append-add, length-take-le, get_or-take, get_or-drop}
use Rattle.ring.specs.Numbers.{sum}
use Rattle.ring.specs.Lists.{joined}
use Rattle.ring.specs.Bytes.{word_at}

-- the m bytes from place b on
abbrev pub part : List ℕ → ℕ → ℕ → List ℕ
part xs b m = take m (drop b xs)

-- they are those of the first b + m bytes
part_of : (xs : List ℕ) (b m : ℕ) → b ≤ length xs → part xs b m ≡ drop b (take (b + m) xs)
part_of xs b m h = sym (ap (drop b) (take-add b m xs) ∙ drop_at (take b xs) (part xs b m) b (length-take-le b xs h))

-- p was written from place at on, over the k bytes that stood there
module _ (xs p : List ℕ) (at k : ℕ) (long : length p ≡ k) (room : at + k ≤ length xs) where
  abbrev pub laid : List ℕ
  laid = (take at xs ++ p) ++ drop (at + k) xs

  front_long : length (take at xs) ≡ at
  front_long = length-take-le at xs (omega arith)

  both_long : length (take at xs ++ p) ≡ at + k
  both_long = simp (length-append, front_long, long)

  pub laid_long : length laid ≡ length xs
  laid_long = simp (length-append, length-drop) (omega (arith, front_long, long))

  -- it stands there
  pub laid_here : part laid at k ≡ p
  laid_here =
      ap (λ (l : List ℕ). part l at k) (append_assoc (take at xs) p (drop (at + k) xs))
      ∙ ap (take k) (drop_at (take at xs) (p ++ drop (at + k) xs) at front_long)
      ∙ take_at p (drop (at + k) xs) k long

  -- what stood before it and after it stands as it did
  pub laid_before : (b : ℕ) → b ≤ at → take b laid ≡ take b xs
  laid_before b h =
      ap (take b) (append_assoc (take at xs) p (drop (at + k) xs))
      ∙ take-append-le b (take at xs) (p ++ drop (at + k) xs) (omega (arith, front_long))
      ∙ take-take b at xs h

  pub laid_after : (b : ℕ) → at + k ≤ b → drop b laid ≡ drop b xs
  laid_after b h =
      let e : b ≡ length (take at xs ++ p) + (b - (at + k)) = omega (arith, both_long) in
      let f : at + k + (b - (at + k)) ≡ b = omega arith in
      ap (λ (n : ℕ). drop n laid) e
      ∙ drop-append-add (take at xs ++ p) (drop (at + k) xs) (b - (at + k))
      ∙ drop-drop (b - (at + k)) (at + k) xs
      ∙ ap (λ (n : ℕ). drop n xs) f

  pub part_before : (b m : ℕ) → b + m ≤ at → part laid b m ≡ part xs b m
  part_before b m h =
      part_of laid b m (omega (arith, laid_long)) ∙ ap (drop b) (laid_before (b + m) h) ∙ sym (part_of xs b m (omega arith))

  pub part_after : (b m : ℕ) → at + k ≤ b → part laid b m ≡ part xs b m
  part_after b m h = ap (take m) (laid_after b h)

-- a number of 32 bits, by its four bytes
pub word_same : (s t : List ℕ) (a b : ℕ) → ((d : ℕ) → d < 4 → get_or s (a + d) 0 ≡ get_or t (b + d) 0) → word_at s a ≡ word_at t b
word_same s t a b h =
    λ i. (by 0 a b (omega arith) (omega arith) (omega arith) i * 256 + by 1 (a + 1) (b + 1) refl refl (omega arith) i) * 65536
    + (by 2 (a + 2) (b + 2) refl refl (omega arith) i * 256 + by 3 (a + 2 + 1) (b + 2 + 1) (omega arith) (omega arith) (omega arith) i)
  where
    by : (d x y : ℕ) → x ≡ a + d → y ≡ b + d → d < 4 → get_or s x 0 ≡ get_or t y 0
    by d x y p q l = ap (λ (n : ℕ). get_or s n 0) p ∙ h d l ∙ ap (λ (n : ℕ). get_or t n 0) (sym q)

-- one of a part
pub word_in : (xs p : List ℕ) (b m j : ℕ) → part xs b m ≡ p → j + 4 ≤ m → word_at xs (b + j) ≡ word_at p j
word_in xs p b m j e h =
    word_same xs p (b + j) j
    (λ d l.
    let q : b + j + d ≡ b + (j + d) = omega arith in
    ap (λ (n : ℕ). get_or xs n 0) q ∙ sym (get_or-drop b xs (j + d) 0) ∙ sym (get_or-take m (drop b xs) (j + d) 0 (omega arith)) ∙ ap (λ (l : List ℕ). get_or l (j + d) 0) e)

-- pieces that stand one after the other, six bytes for each of c's, from place `from` on
module _ (g : ℕ → List ℕ) (c : ℕ → ℕ) (xs : List ℕ) (from : ℕ) where
  joined_part : (n : ℕ) → ((i : ℕ) → i < n → part xs (from + 6 * sum c i) (6 * c i) ≡ g i) → part xs from (6 * sum c n) ≡ joined g n
  unfolding joined sum
  joined_part zero h = refl
  joined_part (suc n) h =
      let e : 6 * (sum c n + c n) ≡ 6 * sum c n + 6 * c n = omega arith in
      ap (λ (m : ℕ). part xs from m) e
      ∙ take-add (6 * sum c n) (6 * c n) (drop from xs)
      ∙ (λ t. joined_part n (λ i l. h i (omega arith)) t ++ (ap (take (6 * c n)) (drop-drop (6 * sum c n) from xs) ∙ h n (omega arith)) t)

  -- and the whole buffer, where they all stand
  pub whole : (n : ℕ) → ((i : ℕ) → i < n → part xs (from + 6 * sum c i) (6 * c i) ≡ g i) → xs ≡ (take from xs ++ joined g n) ++ drop (from + 6 * sum c n) xs
  whole n h =
      let m = 6 * sum c n in
      sym (take-append-drop from xs)
      ∙ ap (λ (l : List ℕ). take from xs ++ l) (sym (take-append-drop m (drop from xs)) ∙ (λ t. joined_part n h t ++ drop-drop m from xs t))
      ∙ sym (append_assoc (take from xs) (joined g n) (drop (from + m) xs))
