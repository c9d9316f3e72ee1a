-- `records::put_send`: the record stands in its place of the part. Assumes nothing.
use Rattle.std.proofs.Common.{◌+◌, ◌*◌, ◌++◌, List, ℕ, take, drop, ap, ◌∙◌, append-nil, arith}
use Rattle.ring.specs.Bytes.{send_bytes}
use Rattle.hop.proofs.Grow.{grown}
use Rattle.planner.specs.Links.{direction_number}
use Rattle.planner.proofs.Bytes.{send_long}
use Rattle.planner.proofs.Grow.{begun}
use Rattle.planner.proofs.records.put_send.Goals as goal

pub returns : goal.returns
returns c =
    let a = c.args in
    let send = send_bytes (record { link = a.link; direction = direction_number a.direction; start = a.start }) in
    (grown (begun a.part.now (6 * a.x) (omega arith)) c.put_record.new.part 6 (omega arith) send (send_long _) c.put_record.ensures).is
    ∙ ap (λ (l : List ℕ). (l ++ send) ++ drop (6 * a.x + 6) a.part.now) (append-nil (take (6 * a.x) a.part.now))
