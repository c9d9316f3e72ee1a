-- Document 02, order 1, for every accepted ring of kinds 1, 2 and 3, over the definitions of specs/ alone: each statement under the sentence of
-- the document that it is. (ColumnsPlan has them for every offset by which the plan is a valid schedule.)
use mathlib.Core.Path.{◌≡◌}
use mathlib.Core.List.{[]}
use Prim.Native.Nat.{ℕ, ◌%◌, ◌≤◌, ◌<◌}
use lib.Dec.{eqb}
use lib.ListN.{length, take, drop}
use Rattle.ring.specs.Numbers.{sum}
use Rattle.ring.specs.Lists.{Each, count}
use Rattle.ring.specs.Boards.{Ring, Accepted}
use Rattle.ring.specs.Schedule.{sender, load_at}
use Rattle.ring.specs.Plan.{offset, plan}
use Rattle.ring.specs.Columns.{N, at_tick, played, columns_of, stretch, begins}
use Rattle.ring.proofs.Demand3.{plan_is_valid}
use Rattle.ring.proofs.ColumnsPlan as by

module _ (r : Ring) (ok : Accepted r) where
  -- "At a tick, arrivals come before sends.": when the arrivals of tick t have come, and before its sends, the list of board i is as long as
  -- document 01's load at tick t
  pub as_loaded : (i t : ℕ) → i < r.n → length ((at_tick r (plan r (offset r)) t).board i) ≡ load_at r (plan r (offset r)) i t
  as_loaded = by.as_loaded r (offset r) ok (plan_is_valid r ok)

  -- so no send of the plan finds its board's list empty
  pub none_empty : Each (λ s. 1 ≤ length ((at_tick r (plan r (offset r)) s.start).board (sender r s))) (plan r (offset r))
  none_empty = by.none_empty r (offset r) ok (plan_is_valid r ok)

  -- "With N columns in all, board i must end with the stretch that begins at (the loads of all boards before i, minus f of link i − 1) mod N and
  -- runs for its new load, wrapping after N − 1; board 0 looks at link n − 1."
  pub board_ends_with : (i : ℕ) → i < r.n → (played r (plan r (offset r))).board i ≡ stretch (N r) (begins r (offset r) i) (r.after i)
  board_ends_with = by.board_ends_with r (offset r) ok (plan_is_valid r ok)

  -- and then no column is under way
  pub none_under_way : (l w : ℕ) → l < r.n → (played r (plan r (offset r))).link l w ≡ []
  none_under_way = by.none_under_way r (offset r) ok (plan_is_valid r ok)

  -- "leave the boards' lists end to end, board 0's first": they are one stretch of all N columns, from where board 0 begins
  pub columns_are : columns_of r (offset r) ≡ stretch (N r) (begins r (offset r) 0) (N r)
  columns_are = by.columns_are r (offset r) ok (plan_is_valid r ok)

  -- and board i's columns stand in it past as many places as the boards before it then have
  pub board_part : (i : ℕ) → i < r.n
      → take (r.after i) (drop (sum r.after i) (columns_of r (offset r))) ≡ stretch (N r) (begins r (offset r) i) (r.after i)
  board_part = by.board_part r (offset r) ok (plan_is_valid r ok)

  pub column_count : length (columns_of r (offset r)) ≡ N r
  column_count = by.column_count r (offset r) ok (plan_is_valid r ok)

  -- board 0 begins at the offset (raised by N, as the levels are), taken mod N
  pub begins_at_offset : begins r (offset r) 0 ≡ offset r % N r
  begins_at_offset = by.begins_at_offset r (offset r) ok (plan_is_valid r ok)

  -- so the lists are all columns, each once
  pub all_below : Each (λ x. x < N r) (columns_of r (offset r))
  all_below = by.all_below r (offset r) ok (plan_is_valid r ok)

  pub each_once : (c : ℕ) → c < N r → count (λ x. eqb x c) (columns_of r (offset r)) ≡ 1
  each_once = by.each_once r (offset r) ok (plan_is_valid r ok)
