-- The limit file was read, and then the journal.
use Rattle.std.proofs.Common.{subst, ◌∙◌, ◌+◌}
use Rattle.std.specs.Prelude.{Option}
use Rattle.gate_ports.specs.Names.{Texts}
use Rattle.gate_files.specs.CommandOf.{check_value}
use Rattle.gate_files.specs.Stages.{HasFront}
use Rattle.gate_files.proofs.Folder.{went_on}
use Rattle.journal_check.specs.declared.judging.TheConstants.{JOURNAL_MOST}
use Rattle.check_command.proofs.Ways.{counted, no_limits, no_journal}
use Rattle.check_command.proofs.files.read_files.Goals as goal

pub returns-in-Err-clause-err : goal.returns-in-Err-clause-err
returns-in-Err-clause-err g c =
    no_limits (check_value c.args.check.now) _ _ _ _ _ _ c.in-Err.status c.in-Err.ensures.texts
    c.in-Err.ensures.err

pub returns-in-Ok-fetch_name-clause-went : goal.returns-in-Ok-fetch_name-clause-went
returns-in-Ok-fetch_name-clause-went g c =
    went_on _ _ _ c.in-Ok.ensures.went c.in-Ok-fetch_name.ensures.went

pub returns-in-Ok-fetch_name-clause-ok : goal.returns-in-Ok-fetch_name-clause-ok
returns-in-Ok-fetch_name-clause-ok g c = record {
  limits_are = counted _ _ c.args.check.now.sessions.now c.in-Ok.file _ c.in-Ok.ensures.ok
      c.counted_for-limits.ensures;
  journal_is = subst (λ (t : Option Texts). HasFront t c.args.check.now.journal.now
      (JOURNAL_MOST + 1) c.in-Ok-fetch_name.journal.items) c.in-Ok.ensures.texts
      c.in-Ok-fetch_name.ensures.ok;
}

pub returns-in-Err-fetch_name-clause-went : goal.returns-in-Err-fetch_name-clause-went
returns-in-Err-fetch_name-clause-went g c =
    went_on _ _ _ c.in-Ok.ensures.went c.in-Err-fetch_name.ensures.went

pub returns-in-Err-fetch_name-clause-err : goal.returns-in-Err-fetch_name-clause-err
returns-in-Err-fetch_name-clause-err g c =
    no_journal (check_value c.args.check.now) _ _ _ _ _ _ _ _ _ _ c.in-Err-fetch_name.status
    (counted _ _ c.args.check.now.sessions.now c.in-Ok.file _ c.in-Ok.ensures.ok
    c.counted_for-limits.ensures)
    c.in-Ok.ensures.went (c.in-Err-fetch_name.ensures.texts ∙ c.in-Ok.ensures.texts)
    c.in-Err-fetch_name.ensures.err
