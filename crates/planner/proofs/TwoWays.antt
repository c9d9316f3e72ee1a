-- Kind 3: the records of a link, from its level, are those of the plan. Assumes nothing.
use Rattle.std.proofs.Common.{◌≡◌, ap, inl, inr, ℕ, suc, ◌+◌, ◌*◌, ◌-◌, ◌≤◌, ◌<◌, arith, ltb}
use borrow.Author.Tests.{eq-eqb}
use Rattle.ring.specs.Numbers.{pick}
use Rattle.ring.specs.Boards.{Ring, Accepted}
use Rattle.ring.specs.Plan.{level, offset, rounds, ahead, behind, carries, start_of, direction_of, finish_of}
use Rattle.ring.specs.Bytes.{send_bytes}
use Rattle.ring.proofs.Joined.{joined_same}
use Rattle.ring.proofs.Offset as offsets
use Rattle.ring.proofs.Demand3.{finish_fits}
use Rattle.planner.specs.Outline.{rounds_of}
use Rattle.planner.specs.Links.{link_bytes, direction_by, start_two}
use Rattle.planner.proofs.Round.{piece}

module _ (r : Ring) (two : r.kind ≡ 3) where
  -- the start of a send, from the level of its link
  start_is : (i x : ℕ) → start_two (level r i) (offset r) (rounds r) (r.cost i) x ≡ start_of r (offset r) i (suc x)
  unfolding start_of behind
  start_is i x =
      let e : x ≡ suc x - 1 = omega arith in
      rw (eq-eqb r.kind 3 two)
      (λ t. pick (ltb 0 (offset r - level r i)) ((rounds r - (offset r - level r i) + e t) * r.cost i) (e t * r.cost i))

  pub piece_is : (i : ℕ) → link_bytes i (direction_by (level r i) (offset r)) (start_two (level r i) (offset r) (rounds r) (r.cost i)) (carries r (offset r) i) ≡ piece r (offset r) i
  unfolding behind
  piece_is i = joined_same _ _ (carries r (offset r) i) (λ x p. ap (λ (t : ℕ). send_bytes (record { link = i; direction = direction_of r (offset r) i; start = t })) (start_is i x))

  pub rounds_two : rounds_of r ≡ rounds r
  rounds_two = rw (eq-eqb r.kind 3 two)

  module _ (ok : Accepted r) (i : ℕ) (h : i < r.n) where
    -- no send starts before tick 0, and none too late for 32 bits
    pub in_time : (offset r - level r i ≤ rounds r) × (rounds r * r.cost i < 4294967296)
    unfolding finish_of ahead behind
    in_time =
        let within : carries r (offset r) i ≤ rounds r = elim (offsets.fits r ok) [ inl w ↦ w.within i h | inr o ↦ absurd (o.kind two) ] in
        let soon : rounds r * r.cost 0 < 4294967296 = rw (eq-eqb r.kind 3 two) at (finish_fits r ok).1 in
        (omega arith, rw (ok.alike (inr two) i h) soon)
