-- `AcceptedRing::new`: the items are the sum of the first n loads. Assumes nothing.
use Rattle.std.proofs.Common.{◌∙◌, take}
use Rattle.std.specs.List as list
use Rattle.planner.proofs.Raising.{sum_taken}
use Rattle.planner.proofs.accepted.AcceptedRing.new.Goals as goal

pub invariant_of-result : goal.invariant_of-result
invariant_of-result c =
    let loads = c.args.job.now.loads in
    record { lent = c.requires; added = c.items.ensures ∙ (λ t. list.sum (take (c.from.ensures t) loads)) ∙ sum_taken loads c.args.shape.n c.requires.loads_long }
