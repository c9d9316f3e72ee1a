-- `Text::write`: the bytes are copied to their place. Assumes nothing.
use Rattle.std.proofs.Common.{refl, arith}
use Rattle.report.proofs.Writing.{put}
use Rattle.report.proofs.text.Text.write.Goals as goal

pub returns : goal.returns
returns c = put c.copy_from_slice.ensures.after (omega arith) c.requires refl refl refl
