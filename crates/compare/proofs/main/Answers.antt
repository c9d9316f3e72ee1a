-- The rows are as long as they were made, told by a law, since counting their places is past the checker's stack.
use Rattle.std.proofs.Common.{ℕ, sym}
use Rattle.std.proofs.lemmas.List.{length-replicate}
use Rattle.compare.proofs.main.Goals as goal

pub slice_bounds-comparison-end-4 : goal.slice_bounds-comparison-end-4
slice_bounds-comparison-end-4 c = sym (length-replicate {A = ℕ} 655360 0)
