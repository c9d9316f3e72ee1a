-- The size of a sum of signed numbers. Assumes nothing.
use Rattle.std.proofs.Common.{suc, ◌+◌, ◌-◌, ◌≤◌, ℤ, pos, negsuc, ◌+ℤ◌, arith}
use Rattle.std.specs.Int.Signed.{mag}
use lib.Dec.{ltb}
use Rattle.ring.proofs.After.{mag_cond}

pub mag_add : (a b : ℤ) → mag (a +ℤ b) ≤ mag a + mag b + 1
mag_add (pos a) (pos b) = omega arith
mag_add (pos a) (negsuc b) = omega (arith, mag_cond (ltb a (suc b)) (suc b - suc a) (a - suc b) (a + b + 2) (omega arith) (omega arith))
mag_add (negsuc a) (pos b) = omega (arith, mag_cond (ltb b (suc a)) (suc a - suc b) (b - suc a) (a + b + 2) (omega arith) (omega arith))
mag_add (negsuc a) (negsuc b) = omega arith
