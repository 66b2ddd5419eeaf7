use Rattle.std.proofs.Common.{ap, ◌∙◌}
use Rattle.node_rule.specs.declared.view.Plan.{Plan}
use Rattle.double_refresh.proofs.Standings.{posted_is_fresh}
use Rattle.double_refresh.proofs.tests.begin.Goals as goal

pub returns-clause-begun : goal.returns-clause-begun
returns-clause-begun g c =
    posted_is_fresh 1 c.args.value c.reserve.new.self c.store_leaf.new.climb
    (ap (λ (p : Plan). p.levels) c.reserve.ensures.table.1 ∙ c.requires.levels)
    c.store_leaf.ensures.table.1 c.store_leaf.ensures.view
