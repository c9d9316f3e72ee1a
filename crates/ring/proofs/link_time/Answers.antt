-- `ring::link_time`: 16 bits times 32 fit 64. Assumes nothing.
use Rattle.std.proofs.Common.{arith}
use Rattle.std.proofs.Math.Nat.{mul-le-mul}
use Rattle.ring.proofs.link_time.Goals as goal

pub overflow_mul-result : goal.overflow_mul-result
overflow_mul-result c = omega (arith, mul-le-mul {n₁ = c.from.result} {m₁ = c.from-2.result} {n₂ = 65535} {m₂ = 4294967295} (omega arith) (omega arith))
