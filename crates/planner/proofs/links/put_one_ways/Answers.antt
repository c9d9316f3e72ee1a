-- `links::put_one_ways`: the records of the links so far, from one that carries nothing round the ring. Assumes nothing.
use Rattle.std.proofs.Common.{◌≡◌, ℕ, suc, ◌+◌, ◌-◌, ◌≤◌, ◌<◌, ℤ, pos, nat_abs, ◌+ℤ◌, w16, FitsSigned, to_z, of_z, length, sym, ap, subst, ◌∙◌, rules, arith}
use Rattle.ring.specs.Boards.{Ring, next}
use Rattle.ring.specs.Lists.{each_ℤ}
use Rattle.ring.specs.Plan.{offset, carries, moves}
use Rattle.ring.proofs.Level.{One}
use Rattle.ring.proofs.Neighbours.{next_below}
use Rattle.ring.proofs.Bounds.{carries_most, items_most}
use Rattle.ring.proofs.Offset.{one_way, fits}
use Rattle.planner.specs.declared.accepted.AcceptedRing.{AcceptedRing}
use Rattle.planner.specs.declared.links.Feed.{Feed}
use Rattle.planner.specs.declared.links.Place.{Place}
use Rattle.hop.specs.Kinds.{number_of}
use Rattle.planner.specs.Held.{ring_held}
use Rattle.planner.specs.Links.{place_after}
use Rattle.planner.proofs.Raising.{may_lead, led}
use Rattle.planner.proofs.Round.{place_of, short, set_out, count_next, fed_next, gone_on, gone_round}
use Rattle.planner.proofs.links.put_one_ways.Goals as goal
use Rattle.planner.proofs.links.put_one_ways.Goals.{In-loop-k}

-- a one-way ring's offset is its least level
goes : (a : AcceptedRing) → (number_of a.shape.kind ≡ 3 → ⊥) → One (ring_held a) (offset (ring_held a))
goes a one = record { kind = one; from = one_way (ring_held a) one }

pub loop-k-init : goal.loop-k-init
loop-k-init c =
    let a = c.args.ring.now in
    let r = ring_held a in
    let none = ap (λ (o : ℕ). carries r o c.idle_of-here.result.link) (sym c.requires.known) ∙ c.idle_of-here.ensures.carries in
    let place = c.idle_of-here.ensures.place in
    record {
      from = omega arith;
      gone = set_out r (offset r) a.lent.accepted (goes a c.requires.one_way) c.args.buf.now c.idle_of-here.result place.link none place.at;
    }

-- within the loop: that there is a link left, that the link after is one of the ring's, and that the plan has room
module _ (c : In-loop-k) where
  abbrev held : AcceptedRing
  held = c.args.ring.now

  abbrev ring : Ring
  ring = ring_held c.args.ring.now

  abbrev one : One ring (offset ring)
  one = goes held c.requires.one_way

  left : suc (c.loop-k.k - 1) < ring.n
  left = omega (arith, c.loop-k-test.true, c.loop-k.invariant.from, c.from-n.ensures)

  after_here : next ring.n c.loop-k.here.link < ring.n
  after_here = next_below ring.n c.loop-k.here.link c.loop-k.invariant.gone.link

  roomy : place_of ring (offset ring) ring.n ≤ length c.args.buf.now
  unfolding moves
  roomy = c.requires.fits

pub place_after-here-requires : goal.place_after-here-requires
place_after-here-requires c =
    let t = (goal.at.place_after-here-requires c).In-loop-k in
    let g = c.loop-k.invariant.gone in
    let few = short (ring t) (offset (ring t)) (held t).lent.accepted (one t) c.loop-k.here.link g.link in
    (omega (arith, g.link, c.from-n.ensures), omega (arith, g.at, g.count_is))

-- the link after, as the code has it
module _ (c : In-loop-k) (there : Place) (was : there ≡ place_after c.loop-k.here c.loop-k.count c.from-n.result) where
  is : there ≡ place_after c.loop-k.here c.loop-k.count (ring c).n
  is = was ∙ ap (place_after c.loop-k.here c.loop-k.count) c.from-n.ensures

  link_is : there.link ≡ next (ring c).n c.loop-k.here.link
  link_is = ap (λ (p : Place). p.link) is

  -- the surplus of its board leads to what it carries
  abbrev surplus : ℤ
  surplus = each_ℤ c.args.ring.now.surpluses.now there.link

  leads : pos (carries (ring c) (offset (ring c)) there.link) ≡ pos c.loop-k.count +ℤ surplus
  leads =
      let s = each_ℤ c.args.ring.now.surpluses.now in
      subst (λ (l : ℕ). pos (carries (ring c) (offset (ring c)) l) ≡ pos c.loop-k.count +ℤ s l) (sym link_is)
      (count_next (ring c) (offset (ring c)) (held c).lent.accepted (one c) c.loop-k.invariant.gone c.idle_of-here.ensures.place.link (left c)
      (s (next (ring c).n c.loop-k.here.link)) ((held c).lent.after_is (next (ring c).n c.loop-k.here.link) (after_here c)))

  -- what its sends wait for
  module _ (feeding : Feed) (so : feeding ≡ record { from = c.loop-k.here.at; load = (ring c).load there.link; cost = (ring c).cost c.loop-k.here.link }) where
    feeding_is : feeding ≡ record { from = c.loop-k.here.at; load = (ring c).load (next (ring c).n c.loop-k.here.link); cost = (ring c).cost c.loop-k.here.link }
    feeding_is = so ∙ (λ t. record { from = c.loop-k.here.at; load = (ring c).load (link_is t); cost = (ring c).cost c.loop-k.here.link })

  count_is : (many : ℕ) → many ≡ nat_abs (pos c.loop-k.count +ℤ to_z w16 (of_z w16 surplus)) → FitsSigned w16 surplus
      → many ≡ carries (ring c) (offset (ring c)) (next (ring c).n c.loop-k.here.link)
  count_is many e small =
      e
      ∙ led c.loop-k.count (carries (ring c) (offset (ring c)) there.link) surplus leads small.sfits
      ∙ ap (carries (ring c) (offset (ring c))) link_is

pub risen-count-requires : goal.risen-count-requires
risen-count-requires c =
    let t = (goal.at.risen-count-requires c).In-loop-k in
    let there = c.place_after-here.result in
    let g = c.loop-k.invariant.gone in
    let ok = (held t).lent.accepted in (
      omega (arith, g.count_is, carries_most (ring t) ok (offset (ring t)) (fits (ring t) ok) c.loop-k.here.link g.link, items_most (ring t) ok),
      may_lead c.loop-k.count (carries (ring t) (offset (ring t)) there.link) (surplus t there c.place_after-here.ensures) (leads t there c.place_after-here.ensures) (search rules),
    )

pub put_one_way-requires : goal.put_one_way-requires
put_one_way-requires c =
    let t = (goal.at.put_one_way-requires c).In-loop-k in
    let there = c.place_after-here.result in
    let was = c.place_after-here.ensures in
    let many = count_is t there was c.risen-count.result c.risen-count.ensures (search rules) in
    let feeding : Feed = record { from = c.loop-k.here.at; load = c.from.result; cost = (ring t).cost c.loop-k.here.link } in
    let so = feeding_is t there was feeding (λ k. record { from = c.loop-k.here.at; load = c.from.ensures k; cost = (ring t).cost c.loop-k.here.link }) in
    fed_next (ring t) (offset (ring t)) (held t).lent.accepted (one t) c.loop-k.invariant.gone c.idle_of-here.ensures.place.link (left t)
    there (is t there was) c.risen-count.result many feeding so (roomy t)

pub loop-k-preserved : goal.loop-k-preserved
loop-k-preserved c =
    let t = (goal.at.loop-k-preserved c).In-loop-k in
    let there = c.place_after-here.result in
    let was = c.place_after-here.ensures in
    let many = count_is t there was c.risen-count.result c.risen-count.ensures (search rules) in
    let feeding : Feed = record { from = c.loop-k.here.at; load = c.from.result; cost = (ring t).cost c.loop-k.here.link } in
    let so = feeding_is t there was feeding (λ k. record { from = c.loop-k.here.at; load = c.from.ensures k; cost = (ring t).cost c.loop-k.here.link }) in
    let k = c.loop-k.k in
    let e : k + 1 - 1 ≡ suc (k - 1) = omega (arith, c.loop-k.invariant.from) in
    record {
      from = omega arith;
      gone =
          rw e
          (gone_on (ring t) (offset (ring t)) (held t).lent.accepted (one t) c.loop-k.invariant.gone c.idle_of-here.ensures.place.link (left t)
          there (is t there was) c.risen-count.result many feeding so
          ((ring t).cost there.link) (ap (ring t).cost (link_is t there was)) (roomy t) c.put_one_way.new.buf c.put_one_way.ensures);
    }

pub returns : goal.returns
returns c =
    let a = c.args.ring.now in
    let r = ring_held a in
    gone_round r (offset r) a.lent.accepted (goes a c.requires.one_way) c.loop-k.invariant.gone c.idle_of-here.ensures.place.link
    (omega (arith, c.loop-k.invariant.from, c.loop-k.auto.k-end, c.loop-k-test.false, c.from-n.ensures))
