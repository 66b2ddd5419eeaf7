-- What is read before a journal is judged.
use Rattle.std.specs.Prelude.{ℕ, ◌+◌, List, length, Option}
use Rattle.gate_ports.specs.Names.{Texts}
use Rattle.gate_files.specs.Stages.{HasFront}
use Rattle.gate_files.specs.Stops.{HasCounted}
use Rattle.gate_files.specs.Words.{CheckWords}
use Rattle.journal_check.specs.declared.judging.TheConstants.{JOURNAL_MOST}
use Rattle.limit_table.specs.declared.limits.Limits.{Limits}

-- The limits are those that count for so many sessions, and the bytes are the journal's whole text,
-- or its first ones, of which there are more than are judged.
pub record AreRead (told : Option Texts) (check : CheckWords) (limits : Limits) (bytes : List ℕ)
    : Type 0 where
  pub limits_are : HasCounted told check.limits (length check.sessions) limits
  pub journal_is : HasFront told check.journal (JOURNAL_MOST + 1) bytes
