-- A run that didn't want memory is told.
use Rattle.std.proofs.Common.{sym, ◌∙◌}
use Rattle.gate_files.specs.CommandOf.{run_value}
use Rattle.gate_program.proofs.Ways.{run_told}
use Rattle.gate_program.proofs.command.run_and_tell.Goals as goal

pub returns : goal.returns
returns g c = run_told (run_value c.args.run.now) _ _ _ _ _ _ _ _ _ _ _ _ _ _
    (λ is. c.if-number.false (c.number.ensures ∙ is ∙ sym c.number-2.ensures))
    c.run_words-answer.ensures c.tell_answer.ensures
