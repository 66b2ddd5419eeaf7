use Rattle.gate_files.specs.CommandOf.{run_value}
use Rattle.session_tasks.proofs.StagesOfRun.{no_limits_went}
use Rattle.cross_command.specs.Crossed.{HasCrossed}
use Rattle.cross_command.proofs.Ended.{limited_went}
use Rattle.cross_command.proofs.command.cross_words.Goals as goal

pub returns-in-Ok : goal.returns-in-Ok
returns-in-Ok g c = limited_went (run_value c.args.run.now) _ _ _ _ _ _ _ _ _ _ _
    c.in-Ok.ensures.went c.in-Ok.ensures.texts c.cross_limited.ensures

pub returns-in-Err : goal.returns-in-Err
returns-in-Err g c = no_limits_went (HasCrossed (run_value c.args.run.now))
    (run_value c.args.run.now) _ _ _ _ _ _ c.in-Err.status
    c.in-Err.ensures.texts c.in-Err.ensures.err
