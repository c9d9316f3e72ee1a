-- What the planner answers and leaves, from the numbers of the plan that it worked out. Assumes nothing.
use Rattle.std.proofs.Common.{◌≡◌, sym, ap, ◌∙◌, List, ◌++◌, ℕ, ◌*◌, ◌≤◌, ◌<◌, ltb, drop, Ok, arith}
use borrow.Author.Tests.{ltb-false}
use Rattle.ring.specs.Boards.{Ring}
use Rattle.ring.specs.Plan.{offset, finish_of, moves, tight, plan}
use Rattle.ring.specs.Bytes.{plan_head, records_of}
use Rattle.hop.specs.declared.refusals.Refusal.TheVariants.{TooLate, NoRoom}
use Rattle.hop.proofs.First.{no}
use Rattle.planner.specs.declared.Planned.{Planned}
use Rattle.planner.specs.PlanBytes.{plan_bytes, plan_length}
use Rattle.planner.specs.declared.sums.Outline.{Outline}
use Rattle.planner.specs.Outline.{outline_of}
use Rattle.planner.specs.Answer.{weighed_of, answer_for}
use Rattle.planner.specs.Links.{links_after}
use Rattle.planner.proofs.Bytes.{head_long}
use Rattle.planner.proofs.Grow.{past_head}

-- an outline that is the ring's is answered with as the ring is
pub answer_is : (r : Ring) (o : Outline) → o ≡ outline_of r → (room : ℕ) → weighed_of o.finish.0 o.moves.0 o.tight room ≡ answer_for r room
answer_is r o is room t = weighed_of (is t).finish.0 (is t).moves.0 (is t).tight room

-- what is known of a ring whose plan was let through
pub record Through (r : Ring) (f m room : ℕ) : Type 0 where
  pub finish : f ≡ finish_of r (offset r)
  pub moved : m ≡ moves r (offset r)
  pub soon : finish_of r (offset r) < 4294967296
  pub fits : plan_length r ≤ room

pub through : (r : Ring) (room : ℕ) (p : Planned) → answer_for r room ≡ Ok p → Through r p.finish p.moves room
through r room p e =
    let q : Planned = record { finish = finish_of r (offset r); moves = moves r (offset r); tight = tight r (offset r) } in
    let a = no (ltb 4294967295 (finish_of r (offset r))) TooLate _ e in
    let b = no (ltb room (plan_length r)) NoRoom (Ok q) a.1 in
    let is : q ≡ p = cc in
    record {
      finish = sym (ap (λ (x : Planned). x.finish) is);
      moved = sym (ap (λ (x : Planned). x.moves) is);
      soon = omega (arith, ltb-false 4294967295 (finish_of r (offset r)) a.0);
      fits = ltb-false room (plan_length r) b.0;
    }

-- the head and the links' records together are the plan
pub laid_out : {r : Ring} {f m room : ℕ} → Through r f m room → (xs ys zs : List ℕ) → ys ≡ plan_head r.kind r.n f m ++ drop 15 xs → zs ≡ links_after r ys
    → zs ≡ plan_bytes r ++ drop (plan_length r) xs
laid_out {r} {f} {m} t xs ys zs head wrote =
    wrote
    ∙ past_head (plan_head r.kind r.n f m) ys xs (records_of (plan r (offset r))) 15 (6 * moves r (offset r)) (head_long r.kind r.n f m) head
    ∙ (λ i. (plan_head r.kind r.n (t.finish i) (t.moved i) ++ records_of (plan r (offset r))) ++ drop (plan_length r) xs)
