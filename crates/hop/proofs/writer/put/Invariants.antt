-- `writer::put`: the bytes of the boards so far stand after the head.
use Rattle.std.proofs.Common.{◌++◌}
use Rattle.ring.specs.Lists.{each, each_ℤ, joined}
use Rattle.hop.specs.Kinds.{number_of}
use Rattle.hop.specs.Read.{job_length}
use Rattle.hop.specs.Write.{head_bytes, board_bytes}
use Rattle.hop.proofs.Grow.{Begins}
use Rattle.hop.proofs.writer.put.Given as goal

abbrev pub invariant-loop-i : goal.invariant-loop-i
invariant-loop-i l = Begins l.initial.buf (head_bytes (number_of l.fn.ring.kind) l.fn.ring.n ++ joined (board_bytes (each l.lists.loads.now) (each_ℤ l.lists.surpluses.now) (each l.lists.costs.now)) l.i) (job_length l.i) l.buf
