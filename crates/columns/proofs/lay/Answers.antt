-- `columns::lay` meets its contract: the two parts, each of rising columns, and then what was there. Assumes nothing.
use Rattle.columns.proofs.Rising.{laid}
use Rattle.columns.proofs.lay.Goals as goal

pub returns : goal.returns
returns c = let cut = c.split_at_mut-up.ensures in laid c.args.first c.args.total c.requires.0 c.args.list.now _ c.requires.1 cut.back cut.front_len c.rise.ensures c.rise-2.ensures
