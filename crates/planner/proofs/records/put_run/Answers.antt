-- `records::put_run`: one record more. Assumes nothing.
use Rattle.std.proofs.Common.{◌≡◌, ℕ, ◌+◌, ◌*◌, ◌++◌, List, take, drop, refl, ◌∙◌, add-one, arith}
use Rattle.ring.specs.Lists.{joined}
use Rattle.ring.specs.Bytes.{send_bytes}
use Rattle.planner.specs.Links.{direction_number}
use Rattle.planner.proofs.Bytes.{send_long}
use Rattle.planner.proofs.Grow.{placed}
use Rattle.planner.proofs.records.put_run.Goals as goal

pub loop-x-init : goal.loop-x-init
unfolding joined
loop-x-init c = record { next = omega arith; sends = record { is = refl; long = refl; same = refl } }

pub loop-x-preserved : goal.loop-x-preserved
unfolding joined
loop-x-preserved c =
    let l = c.loop-x in
    let a = c.args in
    let x = l.x in
    let q : 6 * (x + 1) ≡ 6 * x + 6 = omega arith in
    let send : ℕ → List ℕ = λ start. send_bytes (record { link = a.link; direction = direction_number a.direction; start = start }) in
    let wrote = c.put_send.ensures ∙ (λ i. (take (6 * x) l.part ++ send (l.invariant.next i)) ++ drop (6 * x + 6) l.part) in
    record {
      next = omega arith;
      sends = rw (q, add-one, joined) (placed l.invariant.sends 6 (send (a.first + x * a.step)) c.put_send.new.part (send_long _) (omega arith) wrote);
    }
