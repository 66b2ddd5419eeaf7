-- What a call of the gate did, by how far it came.
use Rattle.std.specs.Prelude.{◌≡◌, ℕ, List, length, map, slice_get}
use Rattle.std.specs.Prelude.{Option}
use Rattle.std.specs.Prelude.{Some, IfSome, IsSome, Bool, true, false, ◌⊎◌}
use Rattle.std.specs.List.{list_any}
use Rattle.gate_ports.specs.Names.{Texts}
use Rattle.risk_board.specs.declared.hand.Line.{Line}
use Rattle.risk_journal.specs.declared.acts.Act.{Act}
use Rattle.risk_journal.specs.declared.acts.End.{End}
use Rattle.limit_table.specs.declared.limits.Limits.{Limits}
use Rattle.risk_journal.specs.JournalText.{journal_text}
use Rattle.gate_files.specs.Words.{RunWords, journal_name}
use Rattle.gate_files.specs.Early.{KeepsOrFronts}
use Rattle.gate_program.specs.Totals.{totals_of}
use Rattle.gate_files.specs.Ports.{PortsValue, Holds, WriteRose}
use Rattle.gate_program.specs.Run.{EndHolds, IsHistory, set_of}
use Rattle.gate_files.specs.Standing.{standing_of, is_memory}
use Rattle.screen_kit.specs.Screens.{ScreenValue}
use Rattle.session_engine.specs.Session.{armed_for}
use Rattle.gate_files.specs.Told.{Tells}
use Rattle.gate_files.specs.Stops.{HasCounted, KeepsOthers, HasUnreadLimits, HasRefusedLimits, HasUnopenedSession, HasRefusedOutput}

-- the journal stands whole, or its name's write count rose, and its text is as it was or a front
abbrev pub HasJournal : PortsValue → PortsValue → RunWords → List (List Act) → List (List Line) →
    Bool
    → Type 0
HasJournal before after run acts lines false =
    Holds after.texts (journal_name run.out) (journal_text acts lines)
HasJournal before after run acts lines true =
    WriteRose before after (journal_name run.out)
    × KeepsOrFronts before.texts after.texts (journal_name run.out) (journal_text acts lines)

-- the sessions' names have these texts, where the folder tells them
abbrev pub AreInputs : Option Texts → List (List ℕ) → List (List ℕ) → Type 0
AreInputs told names inputs =
    IfSome told (λ texts. map texts names ≡ map (λ bytes. Some bytes) inputs)

-- The sessions were run, with the limits that count for so many: each did, with its own set of these
-- screens, what its end says, all together have one legal history in each tree, and the journal tells
-- it.
pub record HasRun (run : RunWords) (sets : List (List ScreenValue)) (before after : PortsValue)
    (status : ℕ) : Type 0 where
  pub limits : Limits
  pub inputs : List (List ℕ)
  pub acts : List (List Act)
  pub ends : List End
  pub lines : List (List Line)
  -- whether the journal could not be written
  pub refused : Bool
  pub limits_are : HasCounted before.texts run.limits (length run.sessions) limits
  -- a session that wanted memory gives 8, which stands by itself
  pub remembered : list_any is_memory ends ≡ false
  pub inputs_are : AreInputs before.texts run.sessions inputs
  pub input_count : length inputs ≡ length run.sessions
  pub act_count : length acts ≡ length run.sessions
  pub end_count : length ends ≡ length run.sessions
  pub each : (session : ℕ) (bytes : List ℕ) (own : List Act) (end : End)
      → slice_get inputs session ≡ Some bytes → slice_get acts session ≡ Some own
      → slice_get ends session ≡ Some end
      → EndHolds limits (armed_for limits (set_of sets session)) before after run session bytes own
      end
  pub history : IsHistory limits acts lines
  pub journal : HasJournal before after run acts lines refused
  pub others : KeepsOthers before after run
  -- a folder that told its texts before goes on telling them
  pub tells : IsSome before.texts → IsSome after.texts
  pub told : let standing = standing_of ends refused in
      Tells before after (totals_of limits acts ends lines standing) standing status

-- a run that came behind its limits, to its sessions' names or to their end
abbrev pub SessionsWent : RunWords → List (List ScreenValue) → PortsValue → PortsValue → ℕ → Type 0
SessionsWent run sets before after status =
    HasUnopenedSession run before after status ⊎ HasRefusedOutput run before after status
    ⊎ HasRun run sets before after status

-- a run that came as far as its limit file, or behind it
abbrev pub RunWent : RunWords → List (List ScreenValue) → PortsValue → PortsValue → ℕ → Type 0
RunWent run sets before after status =
    HasUnreadLimits run.limits before after status
    ⊎ HasRefusedLimits run.limits before after status
    ⊎ SessionsWent run sets before after status
