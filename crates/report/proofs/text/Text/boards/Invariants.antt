-- `Text::boards`: the lines of the first boards are written, and what is left to walk are the counts of the others.
use Rattle.std.proofs.Common.{◌≡◌, ◌≤◌, take, drop}
use Rattle.std.specs.Iterator.Adapters.{enumerate_source, enumerate_count, zip_first, zip_second}
use Rattle.std.specs.Slice.Iter.{iter_rest}
use Rattle.ring.specs.Lists.{each}
use Rattle.report.specs.Text.{board_lines}
use Rattle.report.specs.Writing.{Writes}
use Rattle.report.proofs.text.Text.boards.Given as goal

abbrev pub invariant-loop-board : goal.invariant-loop-board
invariant-loop-board l = record {
  lines : Writes (board_lines (each l.traffic.sends) (each l.traffic.receives) (enumerate_count l.board-iterator)) l.initial.self l.self;
  few : enumerate_count l.board-iterator ≤ l.n;
  sends : iter_rest (zip_first (enumerate_source l.board-iterator)) ≡ drop (enumerate_count l.board-iterator) (take l.n l.traffic.sends);
  receives : iter_rest (zip_second (enumerate_source l.board-iterator)) ≡ drop (enumerate_count l.board-iterator) l.traffic.receives;
}
