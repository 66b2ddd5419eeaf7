use mir.Syntax.{of_param}
use Rattle.fork_all.proofs.Bounded.{all_with, nothing_left}
use Rattle.gate_program.proofs.tasks.run_tasks.Goals as goal

-- the closure's call asks for what is asked of its type parameters, besides what it says itself
pub map_all-requires-after_bounds : goal.map_all-requires-after_bounds
map_all-requires-after_bounds g c κs within =
    all_with _ _ c.args.tasks.items c.requires.ready (
      record { owned = search; leaving = λ k. nothing_left (k (of_param 0)) },
      record { owned = search; leaving = λ k. nothing_left (k (of_param 1)) },
      search,
    )
