-- `records::put_head`: the bytes copied are the head's. Assumes nothing.
use Rattle.ring.specs.Bytes.{plan_head}
use Rattle.planner.proofs.Bytes.{high_byte}
use Rattle.planner.proofs.records.put_head.Goals as goal

pub returns : goal.returns
unfolding plan_head
returns c = rw (c.copy_from_slice.ensures.after, c.number-kind.ensures, c.to_be_bytes.ensures, c.to_be_bytes-2.ensures, high_byte c.args.planned.finish, high_byte c.args.planned.moves)
