-- `ring::Board::new`: each return rewrites with the tests that led there. Assumes nothing.
use Rattle.std.proofs.Common.{◌≡◌, false, pos, ◌-ℤ◌, to_z-of_z}
use Rattle.std.specs.Int.Signed.{lt_z}
use borrow.Author.Tests.{le-ltb, lt-ltb}
use Rattle.ring.specs.Limits.{board_of}
use Rattle.ring.proofs.After.{said}
use Rattle.ring.proofs.Board.new.Goals as goal
use Rattle.ring.proofs.Board.new.Goals.{Else-after-lt-LEAST_AFTER, Else-after-gt-MOST_AFTER}

-- the load after is not below its limits, and not above them
not_below : (c : Else-after-lt-LEAST_AFTER) → lt_z (pos c.args.load -ℤ c.args.surplus) (pos 1) ≡ false
not_below c = said c.args.load c.args.surplus c.ranges.load.fits c.ranges.surplus (λ z. lt_z z (pos 1)) c.if-after-lt-LEAST_AFTER.false

not_above : (c : Else-after-gt-MOST_AFTER) → lt_z (pos 4095) (pos c.args.load -ℤ c.args.surplus) ≡ false
not_above c = said c.args.load c.args.surplus c.ranges.load.fits c.ranges.surplus (λ z. lt_z (pos 4095) z) c.if-after-gt-MOST_AFTER.false

pub returns-then-load-lt-LEAST : goal.returns-then-load-lt-LEAST
unfolding board_of
returns-then-load-lt-LEAST c = simp (lt-ltb _ _ c.if-load-lt-LEAST.true)

pub returns-then-load-gt-MOST_LOAD : goal.returns-then-load-gt-MOST_LOAD
unfolding board_of
returns-then-load-gt-MOST_LOAD c = simp (le-ltb _ _ c.if-load-lt-LEAST.false, lt-ltb _ _ c.if-load-gt-MOST_LOAD.true)

pub returns-then-after-lt-LEAST_AFTER : goal.returns-then-after-lt-LEAST_AFTER
unfolding board_of
returns-then-after-lt-LEAST_AFTER c =
    let below = said c.args.load c.args.surplus c.ranges.load.fits c.ranges.surplus (λ z. lt_z z (pos 1)) c.if-after-lt-LEAST_AFTER.true in
    simp (le-ltb _ _ c.if-load-lt-LEAST.false, le-ltb _ _ c.if-load-gt-MOST_LOAD.false, below)

pub returns-then-after-gt-MOST_AFTER : goal.returns-then-after-gt-MOST_AFTER
unfolding board_of
returns-then-after-gt-MOST_AFTER c =
    let w = goal.at.returns-then-after-gt-MOST_AFTER c in
    let above = said c.args.load c.args.surplus c.ranges.load.fits c.ranges.surplus (λ z. lt_z (pos 4095) z) c.if-after-gt-MOST_AFTER.true in
    simp (le-ltb _ _ c.if-load-lt-LEAST.false, le-ltb _ _ c.if-load-gt-MOST_LOAD.false, not_below w.Else-after-lt-LEAST_AFTER, above)

pub returns-then-cost-lt-LEAST : goal.returns-then-cost-lt-LEAST
unfolding board_of
returns-then-cost-lt-LEAST c =
    let w = goal.at.returns-then-cost-lt-LEAST c in
    simp (
      le-ltb _ _ c.if-load-lt-LEAST.false,
      le-ltb _ _ c.if-load-gt-MOST_LOAD.false,
      not_below w.Else-after-lt-LEAST_AFTER,
      not_above w.Else-after-gt-MOST_AFTER,
      lt-ltb _ _ c.if-cost-lt-LEAST.true,
    )

pub returns-then-cost-gt-MOST_COST : goal.returns-then-cost-gt-MOST_COST
unfolding board_of
returns-then-cost-gt-MOST_COST c =
    let w = goal.at.returns-then-cost-gt-MOST_COST c in
    simp (
      le-ltb _ _ c.if-load-lt-LEAST.false,
      le-ltb _ _ c.if-load-gt-MOST_LOAD.false,
      not_below w.Else-after-lt-LEAST_AFTER,
      not_above w.Else-after-gt-MOST_AFTER,
      le-ltb _ _ c.if-cost-lt-LEAST.false,
      lt-ltb _ _ c.if-cost-gt-MOST_COST.true,
    )

pub returns : goal.returns
unfolding board_of
returns c =
    let w = goal.at.returns c in
    simp (
      le-ltb _ _ c.if-load-lt-LEAST.false,
      le-ltb _ _ c.if-load-gt-MOST_LOAD.false,
      not_below w.Else-after-lt-LEAST_AFTER,
      not_above w.Else-after-gt-MOST_AFTER,
      le-ltb _ _ c.if-cost-lt-LEAST.false,
      le-ltb _ _ c.if-cost-gt-MOST_COST.false,
      to_z-of_z c.ranges.surplus,
    )
