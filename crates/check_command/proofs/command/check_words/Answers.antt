use Rattle.std.proofs.Common.{subst, sym}
use Rattle.std.specs.Prelude.{Option}
use Rattle.gate_ports.specs.Names.{Texts}
use Rattle.gate_files.specs.CommandOf.{check_value}
use Rattle.gate_files.proofs.Folder.{went_on}
use Rattle.check_command.specs.Files.{AreRead}
use Rattle.check_command.proofs.Ways.{stopped_went, judged_went}
use Rattle.check_command.proofs.command.check_words.Goals as goal

pub judge_files-requires-clause-read : goal.judge_files-requires-clause-read
judge_files-requires-clause-read g c κs within =
    subst (λ (t : Option Texts). AreRead t (check_value c.args.check.now) c.in-Ok.files.limits
    c.in-Ok.files.journal.items) (sym c.in-Ok.ensures.texts) c.in-Ok.ensures.ok

pub returns-in-Ok : goal.returns-in-Ok
returns-in-Ok g c =
    judged_went (check_value c.args.check.now) _ _ _ _ _ _ _ _ _ _ _ _ c.in-Ok.ensures.went
    c.in-Ok.ensures.texts (went_on _ _ _ c.in-Ok.ensures.went c.judge_files.ensures.went)
    c.judge_files.ensures.way

pub returns-in-Err : goal.returns-in-Err
returns-in-Err g c =
    stopped_went (check_value c.args.check.now) _ _ _ _ _ _ _ _ _ c.in-Err.ensures.went
    c.in-Err.ensures.err
