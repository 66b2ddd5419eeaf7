use Rattle.session_tasks.proofs.EndsAlike.{end_placed}
use Rattle.cross_command.proofs.Doing.{has_done}
use Rattle.cross_command.proofs.tasks.run_task.Goals as goal

pub returns-clause-done : goal.returns-clause-done
returns-clause-done g c = λ place.
    let ran = c.run_cross-done.ensures in
    has_done c.args.limits.now _ _ _ _ (ran.follows place) ran.source.failed ran.source.name_is
    ran.sinks (end_placed place _ _ ran.ends)
