-- A check that didn't want memory is told.
use Rattle.std.proofs.Common.{sym, ◌∙◌}
use Rattle.gate_files.specs.CommandOf.{check_value}
use Rattle.gate_program.proofs.ChecksTold.{check_told}
use Rattle.gate_program.proofs.command.check_and_tell.Goals as goal

pub returns : goal.returns
returns g c = check_told (check_value c.args.check.now) _ _ _ _ _ _ _ _ _ _ _ _ _ _
    (λ is. c.if-number.false (c.number.ensures ∙ is ∙ sym c.number-2.ensures))
    c.check_words-answer.ensures c.tell_answer.ensures
