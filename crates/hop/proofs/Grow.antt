-- A buffer that is written piece by piece from its front: what a callee that was lent the part from `at` on says of the part, said
-- of the whole. Assumes nothing.
use mathlib.Core.Path.{◌≡◌, sym, ap, subst, ◌∙◌}
use mathlib.Core.List.{List, [], ◌∷◌, ◌++◌, append_assoc, append-nil}
use Prim.Native.Nat.{ℕ, suc, ◌+◌, ◌-◌, ◌≤◌, ◌<◌}
use native.Mathlib.Omega.{arith}
use native.Mathlib.Numerals.{add-one}
use lib.ListN.{length, take, drop, get_or, set, length-append, length-drop, length-set, drop_of_length-le}
use lib.Seq.{take_all, take_at, drop_at, drop-drop, drop-cons, set_at, append_snoc, take-suc}
use borrow.Rule.Slice.PartMut.{put_mid, mid_of}
use Rattle.ring.specs.Lists.{joined}

-- what held xs begins now with p, of `at` bytes, and goes on as it was
pub record Begins (xs p : List ℕ) (at : ℕ) (now : List ℕ) : Type 0 where
  pub is : now ≡ p ++ drop at xs
  pub long : length p ≡ at
  pub same : length now ≡ length xs

module _ {xs p : List ℕ} {at : ℕ} {now : List ℕ} (b : Begins xs p at now) (ys : List ℕ) (k : ℕ) (fits : at + k ≤ length xs) where
  -- q was written at the front of the part from `at` on
  pub grown : (q : List ℕ) → length q ≡ k → ys ≡ q ++ drop k (mid_of at (length now - at) now) → Begins xs (p ++ q) (at + k) (put_mid at (length now - at) now ys)
  grown q long wrote =
      let none : drop (length now - at) (drop at now) ≡ [] = drop_of_length-le (drop at now) {i = length now - at} (simp length-drop (omega arith)) in
      let part : mid_of at (length now - at) now ≡ drop at now = take_all (length now - at) (drop at now) (simp length-drop (omega arith)) in
      let e : put_mid at (length now - at) now ys ≡ (p ++ q) ++ drop (at + k) xs =
      rw (none, append-nil, wrote, part) (simp (b.is, take_at p (drop at xs) at b.long, drop_at p (drop at xs) at b.long, drop-drop, append_assoc))
      in
      let l : length (p ++ q) ≡ at + k = length-append p q ∙ (λ i. b.long i + long i) in
      record { is = e; long = l; same = rw e (simp (length-append, length-drop, b.long, long) (omega arith)) }

-- one value more is put in its place
pub one_put : {xs p now : List ℕ} {i : ℕ} (v : ℕ) → Begins xs p i now → i < length xs → Begins xs (p ++ v ∷ []) (i + 1) (set now i v)
one_put {xs} {p} {now} {i} v b there =
    let e : set now i v ≡ (p ++ v ∷ []) ++ drop (suc i) xs =
    ap (λ (l : List ℕ). set l i v) (b.is ∙ ap (λ (l : List ℕ). p ++ l) (drop-cons xs i 0 there))
    ∙ set_at p (get_or xs i 0) (drop (suc i) xs) v i b.long
    ∙ sym (append_snoc p v (drop (suc i) xs)) in
    rw (add-one i) (record { is = e; long = simp length-append (omega (arith, b.long)); same = length-set now i v ∙ b.same })

-- one byte more of a list is copied to its place
pub copied : {xs now : List ℕ} (bytes : List ℕ) (i : ℕ) → Begins xs (take i bytes) i now → i < length bytes → i < length xs
    → Begins xs (take (i + 1) bytes) (i + 1) (set now i (get_or bytes i 0))
copied {xs} {now} bytes i b here there =
    let v = get_or bytes i 0 in
    subst (λ (p : List ℕ). Begins xs p (i + 1) (set now i v)) (sym (take-suc bytes i 0 here) ∙ ap (λ (k : ℕ). take k bytes) (sym (add-one i))) (one_put v b there)

-- piece i was written there, after those before it
pub more : {xs : List ℕ} {at : ℕ} {now : List ℕ} (p : List ℕ) (g : ℕ → List ℕ) (i k : ℕ) (ys : List ℕ) → Begins xs (p ++ joined g i) at now → length (g i) ≡ k → at + k ≤ length xs → ys ≡ g i ++ drop k (mid_of at (length now - at) now)
    → Begins xs (p ++ joined g (i + 1)) (at + k) (put_mid at (length now - at) now ys)
unfolding joined
more p g i k ys b long fits wrote = rw (add-one, joined, ← append_assoc p (joined g i) (g i)) (grown b ys k fits (g i) long wrote)
