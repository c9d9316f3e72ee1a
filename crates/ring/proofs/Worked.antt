-- What is said of the worked rings holds of the definitions: the checker computes the whole table. Assumes nothing.
use mathlib.Core.Path.{◌≡◌, refl}
use mathlib.Core.Bool.{true}
use Rattle.ring.specs.Numbers.{sum, least, greatest, peak}
use Rattle.ring.specs.Lists.{total, joined}
use Rattle.ring.specs.Schedule.{load_at, in_flight, finish}
use Rattle.ring.specs.Plan.{ends_after, level, low, high, offset, ahead, behind, end_back, rounds, start_of, finish_of, moves, tight}
use Rattle.ring.specs.Bytes.{plan_head, send_bytes, records_of}
use Rattle.ring.specs.Columns.{for_each, tick, after_ticks}
use Rattle.ring.specs.Worked.{holds, all_hold, worked}

pub worked_rings : all_hold worked ≡ true
unfolding sum least greatest peak total joined load_at in_flight finish ends_after level low high offset ahead behind end_back rounds start_of finish_of moves tight plan_head send_bytes records_of for_each tick after_ticks holds
worked_rings = refl
