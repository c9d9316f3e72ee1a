-- The plan of every kind, by any offset that fits: it is a valid schedule, it ends at the plan's finish, and no valid schedule ends sooner.
use mathlib.Core.Path.{◌≡◌}
use mathlib.Core.List.{List}
use mathlib.Core.Logic.{inl, inr}
use Prim.Native.Nat.{ℕ, ◌≤◌}
use native.Mathlib.Nat.{le_antisymm}
use Rattle.ring.specs.Boards.{Ring, Accepted}
use Rattle.ring.specs.Schedule.{Send, Valid, finish}
use Rattle.ring.specs.Plan.{plan, finish_of}
use Rattle.ring.proofs.Level.{Fits}
use Rattle.ring.proofs.Finish.{finish_le}
use Rattle.ring.proofs.Lower.{lower}
use Rattle.ring.proofs.Planned.{Timed, each_plan, timed_valid}
use Rattle.ring.proofs.OneWay.{timed_one_way}
use Rattle.ring.proofs.TwoWay.{timed_two_way}

module _ (r : Ring) (o : ℕ) (ok : Accepted r) (fits : Fits r o) where
  pub timed : Timed r o
  timed = elim fits [ inl two ↦ timed_two_way r o ok two | inr one ↦ timed_one_way r o ok one ]

  pub valid : Valid r (plan r o)
  valid = timed_valid r o timed ok

  pub ends_at : finish r (plan r o) ≡ finish_of r o
  ends_at = le_antisymm (finish_le r (finish_of r o) (plan r o) (each_plan r o _ timed.ended)) (lower r o ok (plan r o) valid fits)

  pub least_finish : (σ : List Send) → Valid r σ → finish r (plan r o) ≤ finish r σ
  least_finish σ v = rw ends_at (lower r o ok σ v fits)
