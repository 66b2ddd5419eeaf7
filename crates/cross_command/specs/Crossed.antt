-- What a filter against crossing orders did, by how far it came.
use Rattle.std.specs.Prelude.{ℕ, List, length, Bool}
use Rattle.limit_table.specs.declared.limits.Limits.{Limits}
use Rattle.risk_board.specs.declared.hand.Line.{Line}
use Rattle.risk_journal.specs.declared.acts.Act.{Act}
use Rattle.risk_journal.specs.declared.acts.End.{End}
use Rattle.risk_journal.specs.TotalsText.{status_line}
use Rattle.gate_files.specs.Words.{RunWords}
use Rattle.gate_files.specs.Ports.{PortsValue}
use Rattle.gate_files.specs.Standing.{standing_of}
use Rattle.gate_files.specs.Stops.{HasCounted}
use Rattle.gate_files.specs.Told.{Tells}
use Rattle.session_tasks.specs.Ran.{HaveRan}
use Rattle.session_tasks.specs.Ways.{WordsWent}
use Rattle.cross_command.specs.Rules.{follows, stops}
use Rattle.cross_command.specs.History.{IsHistory}

-- The sessions were filtered, with the limits that count for so many: each did what its end says,
-- all together have one legal history of each symbol in which admitted orders never cross, the
-- journal tells it, and standard output the status.
pub record HasCrossed (run : RunWords) (before after : PortsValue) (status : ℕ) : Type 0 where
  pub limits : Limits
  pub inputs : List (List ℕ)
  pub acts : List (List Act)
  pub ends : List End
  pub lines : List (List Line)
  -- whether the journal could not be written
  pub refused : Bool
  pub limits_are : HasCounted before.texts run.limits (length run.sessions) limits
  pub ran : HaveRan (follows limits) (stops limits) run before after inputs acts ends lines refused
  pub history : IsHistory limits acts lines
  pub told : let standing = standing_of ends refused in
      Tells before after (status_line standing) standing status

-- a filter that came as far as its limit file, to its sessions' names, or to their end
abbrev pub CrossWent : RunWords → PortsValue → PortsValue → ℕ → Type 0
CrossWent run before after status = WordsWent (HasCrossed run) run before after status
