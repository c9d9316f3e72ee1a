-- Where the columns are when a valid schedule whose links are each used one way has been played, from the books at its end.
use mathlib.Core.Path.{◌≡◌, refl, sym, ap, ◌∙◌}
use mathlib.Core.List.{List, []}
use Prim.Native.Nat.{ℕ, zero, suc, ◌+◌, ◌-◌, ◌%◌, ◌≤◌, ◌<◌}
use native.Mathlib.Nat.{le_refl, add-mod_right}
use native.Mathlib.Decide.{ℕ_discrete}
use native.Mathlib.Omega.{arith}
use lib.Dec.{ltb}
use borrow.Author.Tests.{lt-ltb}
use Rattle.ring.specs.Numbers.{sum}
use Rattle.ring.specs.Lists.{Each, count, joined}
use Rattle.ring.specs.Boards.{Ring, Accepted, prev}
use Rattle.ring.specs.Schedule.{Send, ends, finish, Valid}
use Rattle.ring.specs.Columns.{loads_before, N, played, stretch}
use Rattle.ring.proofs.Totals.{each_map, count_with}
use Rattle.ring.proofs.Finish.{finish_each}
use Rattle.ring.proofs.Flow.{along, fore, hind, flow}
use Rattle.ring.proofs.ColumnsMove.{meet, round}
use Rattle.ring.proofs.ColumnsCounts.{gone, come, lead, count_few}
use Rattle.ring.proofs.ColumnsPlay.{board_ends, play_stands}

module _ (r : Ring) (σ : List Send) where
  -- the cut at link l in the end: over it went fore columns forward and hind back
  abbrev pub cut : ℕ → ℕ
  cut l = lead r σ + loads_before r (suc l) + hind σ l - fore σ l

module _ (r : Ring) (ok : Accepted r) (σ : List Send) (v : Valid r σ) (dir : ℕ → ℕ) (goes : Each (λ s. s.direction ≡ dir s.link) σ) where
  all_gone : (w l : ℕ) → gone r σ (suc (finish r σ)) w l ≡ count (along w l) σ
  all_gone w l =
      count_with (along w l) (λ s. ltb s.start (suc (finish r σ))) σ
      (each_map (λ s (e : ends r s ≤ finish r σ). lt-ltb s.start (suc (finish r σ)) (omega arith)) σ (finish_each r (finish r σ) σ (le_refl _)))

  all_come : (w l : ℕ) → come r σ (suc (finish r σ)) w l ≡ count (along w l) σ
  all_come w l =
      count_with (along w l) (λ s. ltb (ends r s) (suc (finish r σ))) σ
      (each_map (λ s (e : ends r s ≤ finish r σ). lt-ltb (ends r s) (suc (finish r σ)) (omega arith)) σ (finish_each r (finish r σ) σ (le_refl _)))

  few : (l : ℕ) → fore σ l ≤ lead r σ
  few l = count_few r ok σ (along 0 l)

  -- a board begins at the cut before it and ends at its own
  board_runs : (i : ℕ) → i < r.n → cut r σ (prev r.n i) + r.after i ≡ cut r σ i + round r i
  board_runs i h = omega (arith, flow r σ v i h, few i, few (prev r.n i), board_ends r i h)

  pub board_is : (i : ℕ) → i < r.n → (played r σ).board i ≡ stretch (N r) (cut r σ (prev r.n i)) (r.after i)
  board_is i h =
      let q : ℕ = prev r.n i in
      let a = all_gone 1 (prev r.n i) in
      let b = all_come 0 (prev r.n i) in
      let c = all_gone 0 i in
      let d = all_come 1 i in
      (play_stands r ok σ v dir goes (suc (finish r σ))).boards i h (r.after i) (omega (arith, board_runs i h))
      ∙ ap (λ (z : ℕ). stretch (N r) z (r.after i)) (omega arith)

  -- and none is under way
  pub none_flying : (l w : ℕ) → l < r.n → (played r σ).link l w ≡ []
  unfolding joined
  none_flying l w h =
      let st = play_stands r ok σ v dir goes (suc (finish r σ)) in
      elim (ℕ_discrete w (dir l)) [
        | yes e ↦
            rw e (st.links l h 0 (omega (arith, all_gone 0 l, all_gone 1 l, all_come 0 l, all_come 1 l)))
        | no ne ↦ st.others l h w ne
      ]

  -- the boards end to end: one stretch
  runs_on : (i : ℕ) → i < r.n → cut r σ (r.n - 1) + sum r.after (suc i) ≡ cut r σ i + N r
  unfolding sum
  runs_on zero h = omega (arith, board_runs 0 h)
  runs_on (suc i) h = omega (arith, runs_on i (omega arith), board_runs (suc i) h)

  so_far : (i : ℕ) → i < r.n → joined (played r σ).board (suc i) ≡ stretch (N r) (cut r σ (r.n - 1)) (sum r.after (suc i))
  unfolding joined sum
  so_far zero h = board_is 0 h ∙ ap (stretch (N r) (cut r σ (r.n - 1))) {x = r.after 0} {y = 0 + r.after 0} (omega arith)
  so_far (suc i) h =
      meet (N r) (cut r σ (r.n - 1)) (sum r.after (suc i)) (cut r σ i) (r.after (suc i)) (sum r.after (suc (suc i)))
      (joined (played r σ).board (suc i)) ((played r σ).board (suc i)) (so_far i (omega arith)) (board_is (suc i) h)
      (ap (λ (z : ℕ). z % N r) (runs_on i (omega arith)) ∙ add-mod_right (cut r σ i) (N r)) refl

  pub whole_is : joined (played r σ).board r.n ≡ stretch (N r) (cut r σ (r.n - 1)) (N r)
  whole_is =
      let h : r.n - 1 < r.n = omega (arith, ok.boards) in
      let e : suc (r.n - 1) ≡ r.n = omega arith in
      ap (joined (played r σ).board) (sym e)
      ∙ (so_far (r.n - 1) h ∙ ap (stretch (N r) (cut r σ (r.n - 1))) (ap (sum r.after) e ∙ sym ok.balanced))
