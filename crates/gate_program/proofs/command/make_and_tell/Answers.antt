use Rattle.std.proofs.Common.{sym, ◌∙◌}
use Rattle.gate_program.proofs.LoadTold.{load_told}
use Rattle.gate_program.proofs.command.make_and_tell.Goals as goal

pub returns : goal.returns
returns g c = load_told c.args.asked.now _ _ _ _ _ _ _ _ _ _ _ _ _
    (λ is. c.if-number.false (c.number.ensures ∙ is ∙ sym c.number-2.ensures))
    c.make_words-answer.ensures c.tell_answer.ensures
