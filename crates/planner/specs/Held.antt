-- Inner: cited by the contracts of the planner's inner functions only. What the planner promises is in Answer, Traffic, Turn and PlanBytes.
use Rattle.ring.specs.Boards.{Ring, ring_in}
use Rattle.hop.specs.Kinds.{number_of}
use Rattle.planner.specs.declared.accepted.AcceptedRing.{AcceptedRing}

-- the ring that is held
abbrev pub ring_held : AcceptedRing → Ring
ring_held a = ring_in (number_of a.shape.kind) a.shape.n a.loads.now a.surpluses.now a.costs.now
