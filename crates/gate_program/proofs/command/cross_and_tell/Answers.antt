-- A filter that didn't want memory is told.
use Rattle.std.proofs.Common.{sym, ◌∙◌}
use Rattle.gate_files.specs.CommandOf.{run_value}
use Rattle.cross_command.proofs.Ended.{cross_told}
use Rattle.gate_program.proofs.command.cross_and_tell.Goals as goal

pub returns : goal.returns
returns g c = cross_told (run_value c.args.run.now) _ _ _ _ _ _ _ _ _ _ _ _ _
    (λ is. c.if-number.false (c.number.ensures ∙ is ∙ sym c.number-2.ensures))
    c.cross_words-answer.ensures c.tell_answer.ensures
