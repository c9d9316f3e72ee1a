-- A buffer whose links are written one after the other, each six bytes for each of its sends. Assumes nothing.
use Rattle.std.proofs.Common.{◌≡◌, refl, sym, ap, ◌∙◌, List, [], ◌++◌, append_assoc, append-nil, ℕ, suc, ◌+◌, ◌*◌, ◌-◌, ◌≤◌, ◌<◌, arith, add-one, length, take, drop, length-append, length-drop, take-append-drop, drop_of_length-le}
use lib.Seq.{take_all, take_at, drop_at, drop-drop, length-take-le}
use borrow.Rule.Slice.PartMut.{put_mid, mid_of}
use Rattle.ring.specs.Numbers.{sum}
use Rattle.ring.specs.Lists.{joined}
use Rattle.ring.proofs.Sums.{sum_mono}
use Rattle.hop.proofs.Grow.{Begins, more}

-- the terms below n are at least those up to i
pub sum_within : (w : ℕ → ℕ) (i n : ℕ) → i < n → sum w i + w i ≤ sum w n
unfolding sum
sum_within w i n h = sum_mono w (suc i) n h

-- nothing is written yet, from byte `from` on
pub begun : (xs : List ℕ) (from : ℕ) → from ≤ length xs → Begins xs (take from xs ++ []) from xs
begun xs from h = record { is = simp (append-nil, take-append-drop); long = simp append-nil (length-take-le from xs h); same = refl }

-- q was written after the k bytes p that stand at the front
pub placed : {xs p now : List ℕ} {k : ℕ} → Begins xs p k now → (j : ℕ) (q ys : List ℕ) → length q ≡ j → k + j ≤ length xs → ys ≡ (take k now ++ q) ++ drop (k + j) now
    → Begins xs (p ++ q) (k + j) ys
placed {xs} {p} {now} {k} b j q ys long fits wrote =
    let front : take k now ≡ p = ap (take k) b.is ∙ take_at p (drop k xs) k b.long in
    let back : drop (k + j) now ≡ drop (k + j) xs =
    ap (drop (k + j)) b.is ∙ sym (drop-drop j k (p ++ drop k xs)) ∙ ap (drop j) (drop_at p (drop k xs) k b.long) ∙ drop-drop j k xs in
    let is : ys ≡ (p ++ q) ++ drop (k + j) xs = wrote ∙ (λ t. (front t ++ q) ++ back t) in
    let l : length (p ++ q) ≡ k + j = simp length-append (omega (arith, b.long)) in
    record { is = is; long = l; same = rw is (simp (length-append, length-drop) (omega (arith, l, long, b.long))) }

-- q was written in the part that begins at byte `from`, after the k bytes p that stand at its front
pub put_in : {xs now : List ℕ} (from k j : ℕ) (p q ys : List ℕ) → Begins xs (take from xs ++ p) (from + k) now → from ≤ length xs → length p ≡ k → length q ≡ j → from + k + j ≤ length xs
    → ys ≡ (take k (mid_of from (length now - from) now) ++ q) ++ drop (k + j) (mid_of from (length now - from) now)
    → Begins xs (take from xs ++ (p ++ q)) (from + k + j) (put_mid from (length now - from) now ys)
put_in {xs} {now} from k j p q ys b there lp lq fits wrote =
    let rest = drop (from + k) xs in
    let front_long : length (take from xs) ≡ from = length-take-le from xs there in
    let none : drop (length now - from) (drop from now) ≡ [] = drop_of_length-le (drop from now) {i = length now - from} (simp length-drop (omega arith)) in
    let mid : mid_of from (length now - from) now ≡ drop from now = take_all (length now - from) (drop from now) (simp length-drop (omega arith)) in
    let is : now ≡ take from xs ++ (p ++ rest) = b.is ∙ append_assoc (take from xs) p rest in
    let front : take from now ≡ take from xs = ap (take from) is ∙ take_at (take from xs) (p ++ rest) from front_long in
    let back : mid_of from (length now - from) now ≡ p ++ rest = mid ∙ ap (drop from) is ∙ drop_at (take from xs) (p ++ rest) from front_long in
    let past : drop (k + j) (p ++ rest) ≡ drop (from + k + j) xs = sym (drop-drop j k (p ++ rest)) ∙ ap (drop j) (drop_at p rest k lp) ∙ drop-drop j (from + k) xs in
    let put : ys ≡ (p ++ q) ++ drop (from + k + j) xs =
    wrote ∙ (λ t. (take k (back t) ++ q) ++ drop (k + j) (back t)) ∙ (λ t. (take_at p rest k lp t ++ q) ++ past t) in
    let e : put_mid from (length now - from) now ys ≡ (take from xs ++ (p ++ q)) ++ drop (from + k + j) xs =
    rw (none, append-nil) ((λ t. front t ++ put t) ∙ sym (append_assoc (take from xs) (p ++ q) (drop (from + k + j) xs))) in
    let l : length (take from xs ++ (p ++ q)) ≡ from + k + j = simp (length-append, front_long, lp, lq) (omega arith) in
    record { is = e; long = l; same = rw e (simp (length-append, length-drop, front_long, lp, lq) (omega arith)) }

-- pieces of 6 bytes for each of w's, from byte `from` on: those below i are written, up to byte at
pub record Written (from : ℕ) (g : ℕ → List ℕ) (w : ℕ → ℕ) (xs : List ℕ) (i at : ℕ) (now : List ℕ) : Type 0 where
  pub up_to : at ≡ from + 6 * sum w i
  pub front : Begins xs (take from xs ++ joined g i) at now

module _ {from : ℕ} (g : ℕ → List ℕ) (w : ℕ → ℕ) (xs : List ℕ) where
  pub none_yet : from ≤ length xs → Written from g w xs 0 from xs
  unfolding joined sum
  none_yet h =
      record { up_to = omega arith; front = begun xs from h }

  pub one_more : {i at : ℕ} {now : List ℕ} (ys : List ℕ) → Written from g w xs i at now → length (g i) ≡ 6 * w i → at + 6 * w i ≤ length xs
      → ys ≡ g i ++ drop (6 * w i) (mid_of at (length now - at) now) → Written from g w xs (i + 1) (at + 6 * w i) (put_mid at (length now - at) now ys)
  unfolding sum
  one_more {i} ys t long fits wrote =
      record { up_to = rw (add-one, sum) (omega arith); front = more (take from xs) g i (6 * w i) ys t.front long fits wrote }

  -- the whole, once all are written
  pub all_written : {i at : ℕ} {now : List ℕ} (n : ℕ) → i ≡ n → Written from g w xs i at now → now ≡ (take from xs ++ joined g n) ++ drop (from + 6 * sum w n) xs
  all_written {i} n e t =
      t.front.is
      ∙ ap (λ (k : ℕ). (take from xs ++ joined g i) ++ drop k xs) t.up_to
      ∙ ap (λ (k : ℕ). (take from xs ++ joined g k) ++ drop (from + 6 * sum w k) xs) e

-- what was written past a head, where the head was written over zs
pub past_head : (head xs zs js : List ℕ) (from k : ℕ) → length head ≡ from → xs ≡ head ++ drop from zs → (take from xs ++ js) ++ drop (from + k) xs ≡ (head ++ js) ++ drop (from + k) zs
past_head head xs zs js from k long is =
    let front : take from xs ≡ head = rw is (take_at head (drop from zs) from long) in
    let back : drop from xs ≡ drop from zs = rw is (drop_at head (drop from zs) from long) in
    rw (front, ← drop-drop k from xs, back, drop-drop k from zs)
