-- `records::put_record`: the bytes copied are the record's. Assumes nothing.
use lib.Seq.{drop-drop}
use Rattle.ring.specs.Bytes.{send_bytes}
use Rattle.planner.proofs.Bytes.{high_byte}
use Rattle.planner.proofs.records.put_record.Goals as goal

pub returns : goal.returns
unfolding send_bytes
returns c = rw (c.copy_from_slice.ensures.after, c.copy_from_slice-2.ensures.after, c.to_be_bytes.ensures, c.number.ensures, high_byte c.args.start, drop-drop 4 2 c.args.part.now)
