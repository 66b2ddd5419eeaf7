use Rattle.gate_files.specs.CommandOf.{run_value}
use Rattle.gate_program.proofs.Ways.{went_behind, no_limits_went}
use Rattle.gate_program.proofs.command.run_words.Goals as goal

pub returns-in-Ok : goal.returns-in-Ok
returns-in-Ok g c = went_behind (run_value c.args.run.now) _ _ _ _ _ _ _ _ _ _ _ _
    c.in-Ok.ensures.went c.in-Ok.ensures.texts c.run_limited.ensures

pub returns-in-Err : goal.returns-in-Err
returns-in-Err g c = no_limits_went (run_value c.args.run.now) _ _ _ _ _ _ _ c.in-Err.status
    c.in-Err.ensures.texts c.in-Err.ensures.err
