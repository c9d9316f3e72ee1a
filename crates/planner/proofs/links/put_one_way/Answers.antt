-- `links::put_one_way`: one send more starts when it should. Assumes nothing.
use Rattle.std.proofs.Common.{◌≡◌, List, ℕ, ◌+◌, ◌*◌, ◌-◌, ◌≤◌, ◌++◌, max, length, take, drop, refl, ◌∙◌, add-one, arith, rules}
use borrow.Rule.Slice.PartMut.{mid_of}
use borrow.Author.Tests.{lt-ltb}
use Rattle.ring.specs.Lists.{joined}
use Rattle.ring.specs.Bytes.{send_bytes}
use Rattle.planner.specs.Links.{link_bytes, arrives_in, start_fed}
use Rattle.planner.proofs.Bytes.{send_long, link_long}
use Rattle.planner.proofs.Grow.{begun, put_in}
use Rattle.planner.proofs.Feeding.{arrives_same, start_is}
use Rattle.planner.proofs.links.put_one_way.Goals as goal
use Rattle.planner.proofs.links.put_one_way.Goals.{In-loop-x, After-max-start}

pub loop-x-init : goal.loop-x-init
unfolding joined
loop-x-init c =
    let a = c.args in
    let z : a.here.at + 0 ≡ a.here.at = omega arith in
    record { free = refl; few = omega arith; sends = rw z (begun a.buf.now a.here.at (omega (arith, c.requires.room))) }

-- the record of the send has room
room : (c : In-loop-x) → c.args.here.at + 6 * c.loop-x.x + 6 ≤ length c.loop-x.buf
room c = omega (arith, c.requires.room, c.loop-x-test.true, c.loop-x.invariant.sends.same)

-- it starts at the later of two ticks
later : (c : After-max-start) → c.max-start.result.0 ≡ max c.loop-x.free.0 c.arrival.result.0
later c = search rules

-- when what it waits for is there, by the records as they were, it starts when it should
start : (c : After-max-start) → c.max-start.result.0 ≡ start_fed (arrives_in c.args.buf.now c.args.feed) c.args.cost c.loop-x.x
start c =
    let a = c.args in
    let l = c.loop-x in
    let arrives : c.arrival.result.0 ≡ arrives_in a.buf.now a.feed l.x =
    c.arrival.ensures.0
    ∙ arrives_same a.buf.now a.here a.count l.x a.feed c.requires c.loop-x-test.true (link_bytes a.here.link 0 (start_fed (arrives_in a.buf.now a.feed) a.cost) l.x) l.buf (a.here.at + 6 * l.x) refl l.invariant.sends in
    later c ∙ (λ t. max (l.invariant.free t) (arrives t)) ∙ start_is (arrives_in a.buf.now a.feed) a.cost l.x

pub overflow_add-free : goal.overflow_add-free
overflow_add-free c =
    record { fits = omega (arith, later (goal.at.overflow_add-free c).After-max-start, c.from.ensures, c.arrival.ensures.1, c.loop-x.invariant.few, c.loop-x-test.true) }

pub loop-x-preserved : goal.loop-x-preserved
unfolding joined
loop-x-preserved c =
    let l = c.loop-x in
    let a = c.args in
    let x = l.x in
    let from = a.here.at in
    let w = goal.at.loop-x-preserved c in
    let begins = start w.After-max-start in
    let fits : from + 6 * x + 6 ≤ length a.buf.now = omega (arith, room w.In-loop-x, l.invariant.sends.same) in
    let starts = start_fed (arrives_in a.buf.now a.feed) a.cost in
    let send : ℕ → List ℕ = λ start. send_bytes (record { link = a.here.link; direction = 0; start = start }) in
    let part = mid_of from (length l.buf - from) l.buf in
    let q : from + 6 * (x + 1) ≡ from + 6 * x + 6 = omega arith in
    let e : x + 1 - 1 ≡ x = omega arith in
    let wrote = c.put_send.ensures ∙ (λ i. (take (6 * x) part ++ send (begins i)) ++ drop (6 * x + 6) part) in
    record {
      free = rw (lt-ltb 0 (x + 1) (omega arith), e) (λ t. begins t + c.from.ensures t);
      few = omega (arith, later w.After-max-start, c.from.ensures, c.arrival.ensures.1, l.invariant.few);
      sends =
          rw (q, add-one, joined)
          (put_in from (6 * x) 6 (link_bytes a.here.link 0 starts x) (send (starts x)) c.put_send.new.part l.invariant.sends (omega (arith, fits)) (link_long _ _ _ _) (send_long _) fits wrote);
    }
