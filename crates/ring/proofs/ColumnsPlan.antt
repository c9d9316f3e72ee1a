-- Where the columns are when a plan has been played, by any offset whose plan is a valid schedule.
use mathlib.Core.Path.{◌≡◌, refl, sym, ap, ◌∙◌}
use mathlib.Core.List.{[]}
use Prim.Native.Nat.{ℕ, zero, suc, ◌+◌, ◌-◌, ◌%◌, ◌≤◌, ◌<◌}
use native.Mathlib.Nat.{mod-mod}
use native.Mathlib.Omega.{arith}
use mathlib.Core.Bool.{true}
use lib.Dec.{eqb}
use lib.IntN.{ℤ, pos, ◌-ℤ◌}
use lib.ListN.{length, take, drop}
use Rattle.ring.specs.Numbers.{sum}
use Rattle.ring.specs.Lists.{Each, total, count}
use Rattle.ring.specs.Boards.{Ring, Accepted, prev}
use Rattle.ring.specs.Schedule.{sender, load_at, Valid}
use Rattle.ring.specs.Plan.{ahead, behind, direction_of, plan}
use Rattle.ring.specs.Columns.{loads_before, N, at_tick, played, columns_of, mod_ℤ, stretch, begins}
use Rattle.ring.proofs.Sums.{sum_ones}
use Rattle.ring.proofs.Totals.{count_all}
use Rattle.ring.proofs.Joined.{joined_piece}
use Rattle.ring.proofs.Neighbours.{prev_below}
use Rattle.ring.proofs.Level.{level_is}
use Rattle.ring.proofs.Flow.{along, fore, hind}
use Rattle.ring.proofs.Planned.{each_plan, fore_count, hind_count}
use Rattle.ring.proofs.ColumnsStretch.{stretch_mod, stretch_below, stretch_once, up_to_length}
use Rattle.ring.proofs.ColumnsMod.{mod_is, regrouped}
use Rattle.ring.proofs.ColumnsCounts.{some, count_few}
use Rattle.ring.proofs.ColumnsPlay.{link_ends, play_loaded, play_none_empty}
use Rattle.ring.proofs.ColumnsEnd.{cut, board_is, none_flying, whole_is}

module _ (r : Ring) (o : ℕ) (ok : Accepted r) (v : Valid r (plan r o)) where
  -- each link of the plan is used one way
  goes : Each (λ s. s.direction ≡ direction_of r o s.link) (plan r o)
  goes = each_plan r o (λ s. s.direction ≡ direction_of r o s.link) (λ i j h l. refl)

  plan_fore : (l : ℕ) → l < r.n → fore (plan r o) l ≡ ahead r o l
  plan_fore l h = omega (arith, count_all (along 0 l) (plan r o), fore_count r o l (λ s. true) h, sum_ones (ahead r o l))

  plan_hind : (l : ℕ) → l < r.n → hind (plan r o) l ≡ behind r o l
  plan_hind l h = omega (arith, count_all (along 1 l) (plan r o), hind_count r o l (λ s. true) h, sum_ones (behind r o l))

  -- where a board begins, as the number of the cut before it
  begins_is : (i : ℕ) → i < r.n → begins r o i ≡ cut r (plan r o) (prev r.n i) % N r
  begins_is i h = ap (λ (z : ℤ). mod_ℤ z (N r)) (regrouped (loads_before r i) (ahead r o (prev r.n i)) (behind r o (prev r.n i))) ∙ go i h
    where
      go : (i : ℕ) → i < r.n
          → mod_ℤ (pos (loads_before r i + behind r o (prev r.n i)) -ℤ pos (ahead r o (prev r.n i))) (N r) ≡ cut r (plan r o) (prev r.n i) % N r
      go zero h =
          let q = prev_below r.n 0 h in
          mod_is (N r) (some r ok) (loads_before r 0 + behind r o (r.n - 1)) (ahead r o (r.n - 1)) (cut r (plan r o) (r.n - 1)) (suc (total (λ s. 1) (plan r o)))
          (omega (arith, link_ends r 0 h, plan_fore (r.n - 1) q, plan_hind (r.n - 1) q, count_few r ok (plan r o) (along 0 (r.n - 1))))
      go (suc i) h =
          let q = prev_below r.n (suc i) h in
          mod_is (N r) (some r ok) (loads_before r (suc i) + behind r o i) (ahead r o i) (cut r (plan r o) i) (total (λ s. 1) (plan r o))
          (omega (arith, plan_fore i q, plan_hind i q, count_few r ok (plan r o) (along 0 i)))

  from_cut : (i k : ℕ) → i < r.n → stretch (N r) (cut r (plan r o) (prev r.n i)) k ≡ stretch (N r) (begins r o i) k
  from_cut i k h =
      stretch_mod (N r) (cut r (plan r o) (prev r.n i)) (begins r o i) k
      (sym (mod-mod (cut r (plan r o) (prev r.n i)) (N r)) ∙ ap (λ (z : ℕ). z % N r) (sym (begins_is i h)))

  -- at each tick the boards' lists are as long as their loads, so no send finds an empty one
  pub as_loaded : (i t : ℕ) → i < r.n → length ((at_tick r (plan r o) t).board i) ≡ load_at r (plan r o) i t
  as_loaded = play_loaded r ok (plan r o) v (direction_of r o) goes

  pub none_empty : Each (λ s. 1 ≤ length ((at_tick r (plan r o) s.start).board (sender r s))) (plan r o)
  none_empty = play_none_empty r ok (plan r o) v (direction_of r o) goes

  -- each board
  pub board_ends_with : (i : ℕ) → i < r.n → (played r (plan r o)).board i ≡ stretch (N r) (begins r o i) (r.after i)
  board_ends_with i h = board_is r ok (plan r o) v (direction_of r o) goes i h ∙ from_cut i (r.after i) h

  -- in the end none is under way
  pub none_under_way : (l w : ℕ) → l < r.n → (played r (plan r o)).link l w ≡ []
  none_under_way = none_flying r ok (plan r o) v (direction_of r o) goes

  -- the boards' lists end to end: one stretch, of all columns
  pub columns_are : columns_of r o ≡ stretch (N r) (begins r o 0) (N r)
  unfolding columns_of
  columns_are = whole_is r ok (plan r o) v (direction_of r o) goes ∙ from_cut 0 (N r) (omega (arith, ok.boards))

  -- and each board's is cut out of it
  pub board_part : (i : ℕ) → i < r.n → take (r.after i) (drop (sum r.after i) (columns_of r o)) ≡ stretch (N r) (begins r o i) (r.after i)
  unfolding columns_of
  board_part i h =
      joined_piece (played r (plan r o)).board r.after r.n i h (λ j l. ap length (board_ends_with j l) ∙ up_to_length (λ x. (begins r o j + x) % N r) (r.after j))
      ∙ board_ends_with i h

  -- the last level is N, so board 0 begins at the offset
  pub begins_at_offset : begins r o 0 ≡ o % N r
  unfolding ahead behind sum
  begins_at_offset =
      let h : r.n - 1 < r.n = omega (arith, ok.boards) in
      let e : suc (r.n - 1) ≡ r.n = omega arith in
      ap (λ (z : ℤ). mod_ℤ z (N r)) (regrouped (loads_before r 0) (ahead r o (r.n - 1)) (behind r o (r.n - 1)))
      ∙ mod_is (N r) (some r ok) (loads_before r 0 + behind r o (r.n - 1)) (ahead r o (r.n - 1)) o 1
      (omega (arith, level_is r (r.n - 1) h, ap (sum r.load) e, ap (sum r.after) e))

  pub column_count : length (columns_of r o) ≡ N r
  column_count = ap length columns_are ∙ up_to_length (λ p. (begins r o 0 + p) % N r) (N r)

  -- all columns, each once
  pub all_below : Each (λ x. x < N r) (columns_of r o)
  all_below = rw columns_are (stretch_below (N r) (some r ok) (begins r o 0) (N r))

  pub each_once : (c : ℕ) → c < N r → count (λ x. eqb x c) (columns_of r o) ≡ 1
  each_once c h = ap (count (λ x. eqb x c)) columns_are ∙ stretch_once (N r) (begins r o 0) c h
