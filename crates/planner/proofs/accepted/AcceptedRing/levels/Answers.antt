-- `AcceptedRing::levels`: the surpluses lead from the total to the levels of the links. Assumes nothing.
use Rattle.std.proofs.Common.{◌∙◌, take}
use Rattle.planner.specs.Levels.{levels_from}
use Rattle.planner.proofs.Raising.{levels_are}
use Rattle.planner.proofs.SumLevels.{levels, leads_on}
use Rattle.planner.proofs.accepted.AcceptedRing.levels.Goals as goal

pub new-requires : goal.new-requires
new-requires c = let a = c.args.self.now in rw (a.added, c.from.ensures) (leads_on (levels a.lent))

pub returns : goal.returns
returns c =
    let a = c.args.self.now in
    let e = c.new.ensures in
    (λ t. levels_from (e.level_value t) (e.surpluses_value t)) ∙ (λ t. levels_from (a.added t) (take (c.from.ensures t) a.surpluses.now)) ∙ levels_are a.lent
