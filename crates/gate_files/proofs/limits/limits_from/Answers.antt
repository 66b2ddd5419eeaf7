use Rattle.gate_files.proofs.LimitTexts.{gives_no_limits}
use Rattle.gate_files.proofs.limits.limits_from.Goals as goal

pub returns-in-Err-clause-err : goal.returns-in-Err-clause-err
returns-in-Err-clause-err c =
    gives_no_limits c.args.text.now c.in-Err.fault c.status_of_fault.result
    c.in-Err.ensures.refused c.status_of_fault.ensures
