-- `loads::count_sends` meets its contract: the counts of one record more. Assumes nothing.
use Rattle.std.proofs.Common.{rules, ◌+◌, get_or, ◌≡◌, ℕ, List, length, ◌∙◌, add-one, arith, length-set}
use Rattle.std.specs.Int.{from_bool}
use Rattle.std.proofs.Math.Dec.{leb}
use Rattle.ring.specs.Lists.{joined}
use Rattle.planner.specs.PlanBytes.{record_place, record_at, records_in}
use Rattle.loads.specs.Counts.{links_in, send_of}
use Rattle.loads.proofs.Counted.{up_to_long, none_counted, got_room, gave_room, one_counted}
use Rattle.loads.proofs.count_sends.Goals as goal

pub loop-record-init : goal.loop-record-init
unfolding joined
loop-record-init c = record { long = omega arith; counted = rw c.requires.nothing_yet (none_counted (links_in c.args.n c.args.costs.now) c.args.tick c.requires.lengths.0) }

long : (s : List ℕ) (k : ℕ) → length (records_in s k) ≡ k
long s k = up_to_long (λ j. record_at s (record_place j)) k

pub overflow_add-counts : goal.overflow_add-counts
overflow_add-counts c =
    let held = c.loop-record.invariant in
    record { fits = omega (arith, got_room held.long c.requires.lengths.0 held.counted _ c.sides-from.ensures.on_ring.1 c.from-in-loop-record.ensures, long c.args.plan.now c.loop-record.record-index) }

pub overflow_add-counts-in-loop-record : goal.overflow_add-counts-in-loop-record
overflow_add-counts-in-loop-record c =
    let held = c.loop-record.invariant in
    let on = c.sides-from.ensures.on_ring in
    record { fits = omega (arith, gave_room held.long c.requires.lengths.0 held.counted c.from-in-loop-record.result _ on.1 on.0 c.from-in-loop-record-2.ensures, long c.args.plan.now c.loop-record.record-index) }

pub loop-record-preserved : goal.loop-record-preserved
unfolding joined
loop-record-preserved c =
    let k = c.loop-record.record-index in
    let held = c.loop-record.invariant in
    let read = c.from-send.ensures ∙ c.records-record-items.ensures.in_turn k (omega arith) in
    let sides = c.sides-from.ensures in
    let one : c.from-in-loop-record.result ≡ from_bool (leb (c.from-send.result.start + get_or c.args.costs.now c.from-send.result.link 0) c.args.tick) = search rules in
    record {
      long = simp length-set held.long;
      counted =
          rw (add-one, ← read)
          (one_counted held.long c.requires.lengths.0 held.counted (send_of c.from-send.result) sides.to sides.from sides.on_ring.1 sides.on_ring.0 one c.from-in-loop-record-2.ensures);
    }
