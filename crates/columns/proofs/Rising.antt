-- Two rises of columns at the front of a list, the second from 0 on, are a whole round. Assumes nothing.
use mathlib.Core.Path.{◌≡◌, sym, ap, ◌∙◌}
use mathlib.Core.List.{List, ◌++◌}
use Prim.Native.Nat.{ℕ, ◌+◌, ◌-◌, ◌%◌, ◌≤◌, ◌<◌}
use native.Mathlib.Nat.{mod_self, zero-mod}
use native.Mathlib.Omega.{arith}
use lib.ListN.{length, take, drop, length-take, length-drop}
use Rattle.std.proofs.lemmas.List.{append_assoc, drop-drop}
use Rattle.ring.specs.Lists.{up_to}
use Rattle.ring.specs.Columns.{stretch}
use Rattle.ring.proofs.ColumnsStretch.{stretch_mod, stretch_join, stretch_plain}

module _ (first total : ℕ) (below : first < total) where
  -- up to the last column, and then from 0 on
  two_rises : up_to (λ x. first + x) (total - first) ++ up_to (λ x. 0 + x) first ≡ stretch total first total
  two_rises =
      let wrap = total - first in
      let up : stretch total first wrap ≡ up_to (λ x. first + x) wrap = stretch_plain total first wrap (λ x h. omega arith) in
      let e : first + wrap ≡ total = omega arith in
      let again : stretch total (first + wrap) first ≡ up_to (λ x. 0 + x) first =
      stretch_mod total (first + wrap) 0 first (ap (λ (z : ℕ). z % total) e ∙ (mod_self total ∙ sym (zero-mod total))) ∙ stretch_plain total 0 first (λ x h. omega arith) in
      (λ t. sym up t ++ sym again t) ∙ (sym (stretch_join total first wrap first) ∙ ap (stretch total first) {x = wrap + first} {y = total} (omega arith))

  -- of a list cut where the columns wrap: its first part, and the front of its second
  pub laid : (xs part : List ℕ) {up front : List ℕ} {long : ℕ} → total ≤ length xs → part ≡ drop (total - first) xs → long ≡ total - first → up ≡ up_to (λ x. first + x) long
      → front ≡ up_to (λ x. 0 + x) (length (take first part)) → up ++ (front ++ drop first part) ≡ stretch total first total ++ drop total xs
  laid xs part fits cut e u f =
      let k : length (take first part) ≡ first = rw cut (simp (length-take, length-drop) (omega arith)) in
      let rest : drop first part ≡ drop total xs = rw cut (drop-drop first (total - first) xs ∙ ap (λ (z : ℕ). drop z xs) (omega arith)) in
      rw (u, f, e, k, rest, ← append_assoc, two_rises)
