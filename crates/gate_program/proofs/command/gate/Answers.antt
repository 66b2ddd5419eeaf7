use Rattle.std.proofs.Common.{ap, sym, ◌∙◌}
use Rattle.std.specs.Prelude.{Some}
use Rattle.gate_files.specs.CommandOf.{command_value, run_value, check_value}
use Rattle.gate_files.specs.Words.{Command}
use Rattle.gate_files.specs.Words.Command.{Run, Check, Cross}
use Rattle.gate_program.proofs.Ways.{command_went}
use Rattle.gate_program.proofs.command.gate.Goals as goal

pub returns-in-Some-Run : goal.returns-in-Some-Run
returns-in-Some-Run g c = record {
  run = command_went _ _ (Run (run_value c.in-Some-Run.run')) _ _ _ _
      (ap (λ (own : Command). Some own) (sym (ap command_value c.in-Some-Run.field-0-is))
      ∙ c.in-Some-Run.ensures.command) c.run_and_tell.ensures;
}

pub returns-in-Some-Check : goal.returns-in-Some-Check
returns-in-Some-Check g c = record {
  run = command_went _ _ (Check (check_value c.in-Some-Check.check)) _ _ _ _
      (ap (λ (own : Command). Some own) (sym (ap command_value c.in-Some-Check.field-0-is))
      ∙ c.in-Some-Check.ensures.command) c.check_and_tell.ensures;
}

pub returns-in-Some-Cross : goal.returns-in-Some-Cross
returns-in-Some-Cross g c = record {
  run = command_went _ _ (Cross (run_value c.in-Some-Cross.run')) _ _ _ _
      (ap (λ (own : Command). Some own) (sym (ap command_value c.in-Some-Cross.field-0-is))
      ∙ c.in-Some-Cross.ensures.command) c.cross_and_tell.ensures;
}
