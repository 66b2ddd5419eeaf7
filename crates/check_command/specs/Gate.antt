-- What a check did, by how far it came.
use Rattle.std.specs.Prelude.{◌≡◌, ◌⊎◌, ℕ, ◌<◌, List, length, IfSome}
use Rattle.gate_ports.specs.Names.{IsThere}
use Rattle.gate_files.specs.Ports.{PortsValue, ReadRose}
use Rattle.gate_files.specs.Stages.{Went}
use Rattle.gate_files.specs.Stops.{HasCounted, HasUnreadLimits, HasRefusedLimits}
use Rattle.gate_files.specs.Told.{Tells, read_fault_text}
use Rattle.gate_files.specs.Words.{CheckWords}
use Rattle.journal_check.specs.Faults.{Case}
use Rattle.limit_table.specs.declared.limits.Limits.{Limits}
use Rattle.screen_kit.specs.Screens.{ScreenValue}
use Rattle.check_command.specs.Inputs.{name_in}
use Rattle.check_command.specs.Verdicts.{Verdict, verdict_text, verdict_number, IsVerdict, IsCaseAt}
use Rattle.check_command.specs.Verdicts.{IsRightBefore}

-- The journal could not be opened or read, behind a limit file.
pub record HasUnreadJournal (check : CheckWords) (before after : PortsValue) (status : ℕ) : Type 0
  where
    pub limits : Limits
    pub limits_are : HasCounted before.texts check.limits (length check.sessions) limits
    pub rose : ReadRose before after check.journal
    pub texts : after.texts ≡ before.texts
    pub told : Tells before after read_fault_text 5 status

-- A session could not be opened, behind a limit file and a journal.
pub record HasUnopenedInput (check : CheckWords) (before after : PortsValue) (status : ℕ) : Type 0
  where
    pub limits : Limits
    pub limits_are : HasCounted before.texts check.limits (length check.sessions) limits
    pub journal_is : IsThere before.texts check.journal
    pub session : ℕ
    pub in_range : session < length check.sessions
    pub rose : ReadRose before after (name_in check.sessions session)
    pub texts : after.texts ≡ before.texts
    pub told : Tells before after read_fault_text 5 status

-- A session could not be read, and the journal has no fault before its acts: where the folder tells
-- its texts, none of the first four kinds of fault applies, and the acts of each session before it
-- are those of its input.
pub record HasUncheckedSession (check : CheckWords) (sets : List (List ScreenValue))
    (before after : PortsValue) (status : ℕ) : Type 0 where
  pub limits : Limits
  pub limits_are : HasCounted before.texts check.limits (length check.sessions) limits
  pub session : ℕ
  pub in_range : session < length check.sessions
  pub rose : ReadRose before after (name_in check.sessions session)
  pub right_before : IfSome before.texts (λ texts. (case : Case)
      × IsCaseAt texts check limits sets case × IsRightBefore case session)
  pub texts : after.texts ≡ before.texts
  pub told : Tells before after read_fault_text 5 status

-- The journal was judged: where the folder tells its texts, this is the verdict on them.
pub record HasChecked (check : CheckWords) (sets : List (List ScreenValue))
    (before after : PortsValue) (status : ℕ) : Type 0 where
  pub limits : Limits
  pub limits_are : HasCounted before.texts check.limits (length check.sessions) limits
  pub verdict : Verdict
  pub judged : IfSome before.texts (λ texts. (case : Case)
      × IsCaseAt texts check limits sets case × IsVerdict case verdict)
  pub texts : after.texts ≡ before.texts
  pub told : Tells before after (verdict_text verdict) (verdict_number verdict) status

-- the limit file is refused, or it or the journal could not be read
abbrev pub FilesStopped : CheckWords → PortsValue → PortsValue → ℕ → Type 0
FilesStopped check before after status =
    HasUnreadLimits check.limits before after status
    ⊎ HasRefusedLimits check.limits before after status
    ⊎ HasUnreadJournal check before after status

-- both were read, and a session was not, or all were and there is a verdict
abbrev pub FilesJudged : CheckWords → List (List ScreenValue) → PortsValue → PortsValue → ℕ → Type 0
FilesJudged check sets before after status =
    HasUnopenedInput check before after status
    ⊎ HasUncheckedSession check sets before after status
    ⊎ HasChecked check sets before after status

-- A check went one of these ways, and no count of faults fell.
pub record CheckWent (check : CheckWords) (sets : List (List ScreenValue))
    (before after : PortsValue) (status : ℕ) : Type 0 where
  pub counts : Went before after
  pub way : FilesStopped check before after status ⊎ FilesJudged check sets before after status
