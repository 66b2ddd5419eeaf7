-- What stands when the sessions of a run were closed and their journal was written, or refused.
use Rattle.std.specs.Prelude.{◌≡◌, ℕ, List, length, Option, None, IfSome, IsSome, Bool, true, false}
use Rattle.gate_ports.specs.Names.{Texts}
use Rattle.risk_board.specs.declared.hand.Line.{Line}
use Rattle.risk_journal.specs.declared.acts.Act.{Act}
use Rattle.risk_journal.specs.declared.acts.End.{End}
use Rattle.risk_journal.specs.JournalText.{journal_text}
use Rattle.gate_files.specs.Words.{RunWords, journal_name, output_names, is_among}
use Rattle.gate_files.specs.Early.{KeepsOrFronts}
use Rattle.gate_files.specs.Ports.{PortsValue, Holds, WriteRose}
use Rattle.gate_files.specs.Objects.{ObjectsValue, AreCounts, EachHolds, EachHasCauses}
use Rattle.session_tasks.specs.Rules.{InputRule, EarlyRule}
use Rattle.session_tasks.specs.Did.{HaveDone}

-- the name has the text, or its write count rose, and it has its own text or a front of this one
abbrev pub IsKept : PortsValue → PortsValue → List ℕ → List ℕ → Bool → Type 0
IsKept before after name text false = Holds after.texts name text
IsKept before after name text true =
    WriteRose before after name × KeepsOrFronts before.texts after.texts name text

-- the journal stands whole, or its name's write count rose, and its text is as it was or a front
abbrev pub HasJournal : PortsValue → PortsValue → RunWords → List (List Act) → List (List Line)
    → Bool → Type 0
HasJournal before after run acts lines refused =
    IsKept before after (journal_name run.out) (journal_text acts lines) refused

-- The outputs and the journal are written, and names that are no outputs keep their texts, where
-- the folder tells its texts.
pub record AreWritten (run : RunWords) (before after : Option Texts) (objects : List ObjectsValue)
    : Type 0 where
  pub tells : before ≡ None → after ≡ None
  pub goes_on : IsSome before → IsSome after
  pub holds : IfSome before (λ old. IfSome after (λ new. EachHolds run new objects))
  pub others : IfSome before (λ old. IfSome after (λ new. (name : List ℕ)
      → is_among name (output_names run.out (length run.sessions)) ≡ false → new name ≡ old name))

-- The objects were given back and closed, and then the journal was written, or refused.
pub record HasKept (run : RunWords) (before after : PortsValue) (acts : List (List Act))
    (lines : List (List Line)) (objects : List ObjectsValue) (refused : Bool) : Type 0 where
  pub journal : HasJournal before after run acts lines refused
  pub written : AreWritten run before.texts after.texts objects
  pub causes : EachHasCauses run before after objects

-- The sessions that were opened did what they are held to, were closed, and stand in the journal.
pub record HasEnded {S : Type 0} (faults : S → ℕ) (Input : ℕ → InputRule) (Early : ℕ → EarlyRule)
    (run : RunWords) (before after : PortsValue) (objects : List ObjectsValue)
    (acts : List (List Act)) (ends : List End) (lines : List (List Line)) (refused : Bool) : Type 0
  where
    pub objects_after : List ObjectsValue
    pub done : HaveDone Input Early objects objects_after acts ends
    -- the inputs are of one type
    pub counts : AreCounts faults objects_after
    pub kept : HasKept run before after acts lines objects_after refused
