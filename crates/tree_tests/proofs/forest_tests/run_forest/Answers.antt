use Rattle.std.proofs.Common.{ap}
use Rattle.f_array.proofs.NewPasses.{new_passes_are_all}
use Rattle.tree_tests.proofs.forest_tests.run_forest.Goals as goal

pub run_all-requires-clause-all : goal.run_all-requires-clause-all
run_all-requires-clause-all g c κs within =
    new_passes_are_all c.in-Ok.forest c.in-Ok.passes.items c.args.sessions
    c.in-Ok.ensures.passes (ap (λ p. p.sessions) c.in-Ok.ensures.plan)
