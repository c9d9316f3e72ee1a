-- `cases::wide::show_tick`: the buffer is as long as it was made, told by a law, since counting its cells is past the checker's stack. Assumes
-- nothing.
use Rattle.std.proofs.Common.{ℕ, sym}
use Rattle.std.proofs.lemmas.List.{length-replicate}
use Rattle.cases.proofs.wide.show_tick.Goals as goal

pub slice_bounds-show_loads-end : goal.slice_bounds-show_loads-end
slice_bounds-show_loads-end g c = sym (length-replicate {0} {A = ℕ} 5902863 170)
