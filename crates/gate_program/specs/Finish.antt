-- What stands when the sessions of a run have ended.
use Rattle.std.specs.Prelude.{◌≡◌, ℕ, List, map, Bool, true, false}
use Rattle.limit_table.specs.declared.limits.Limits.{Limits}
use Rattle.risk_board.specs.declared.hand.Line.{Line}
use Rattle.risk_journal.specs.declared.acts.Act.{Act}
use Rattle.risk_journal.specs.declared.acts.End.{End}
use Rattle.risk_journal.specs.ActLists.{unplaced}
use Rattle.risk_journal.specs.JournalText.{journal_text}
use Rattle.screen_kit.specs.Screens.{ScreenValue}
use Rattle.gate_files.specs.Words.{RunWords}
use Rattle.gate_files.specs.Ports.{PortsValue, Holds, WriteRose}
use Rattle.gate_files.specs.Standing.{standing_of}
use Rattle.gate_files.specs.Early.{KeepsOrFronts}
use Rattle.gate_program.specs.Gate.{HasJournal}
use Rattle.gate_program.specs.Telling.{Teller}
use Rattle.gate_files.specs.Stages.{ChangesOnly}
use Rattle.gate_program.specs.Histories.{AreLegalLines}
use Rattle.gate_files.specs.Objects.{ObjectsValue, AreCounts}
use Rattle.gate_program.specs.Objects.{HaveDone, AreWritten}
use Rattle.gate_files.specs.Objects.{EachHasCauses}

-- the status that stands is by the ends and by whether the journal was refused, and has its text
pub record HasAnswer (tell : Teller) (acts : List (List Act)) (ends : List End)
    (lines : List (List Line)) (refused : Bool) (text : List ℕ) (status : ℕ) : Type 0 where
  pub stands : status ≡ standing_of ends refused
  pub told : text ≡ tell acts ends lines status

-- the name has the text, or its write count rose, and it has its own text or a front of this one
abbrev pub IsKept : PortsValue → PortsValue → List ℕ → List ℕ → Bool → Type 0
IsKept before after name text false = Holds after.texts name text
IsKept before after name text true =
    WriteRose before after name × KeepsOrFronts before.texts after.texts name text

-- The journal was written under its name or refused, and no other text changed.
pub record HasStood (tell : Teller) (name : List ℕ) (before after : PortsValue)
    (acts : List (List Act)) (ends : List End) (lines : List (List Line)) (text : List ℕ)
    (status : ℕ) : Type 0 where
  pub refused : Bool
  pub answer : HasAnswer tell acts ends lines refused text status
  pub kept : IsKept before after name (journal_text acts lines) refused
  pub others : ChangesOnly before.texts after.texts name

-- The objects were given back and closed before.
pub record HasFinished (tell : Teller) (run : RunWords) (before after : PortsValue)
    (acts : List (List Act)) (lines : List (List Line)) (ends : List End)
    (objects : List ObjectsValue) (text : List ℕ) (status : ℕ) : Type 0 where
  pub refused : Bool
  pub journal : HasJournal before after run acts lines refused
  pub written : AreWritten run before.texts after.texts objects
  pub causes : EachHasCauses run before after objects
  pub answer : HasAnswer tell acts ends lines refused text status

-- The acts of sessions that ended got the places of their reads, and stand in the journal with the
-- lines of each tree.
pub record HasKept (tell : Teller) (limits : Limits) (run : RunWords) (before after : PortsValue)
    (acts : List (List Act)) (ends : List End) (objects : List ObjectsValue) (text : List ℕ)
    (status : ℕ) : Type 0 where
  pub placed : List (List Act)
  pub lines : List (List Line)
  pub alike : map (map unplaced) placed ≡ map (map unplaced) acts
  pub legal : AreLegalLines limits placed lines
  pub finished : HasFinished tell run before after placed lines ends objects text status

-- The sessions that were opened ran with their screens over forests of their own, were closed, and
-- stand in the journal, with the lines of each tree.
pub record HasEnded {S : Type 0} (faults : S → ℕ) (tell : Teller) (limits : Limits) (sets : List (List ScreenValue)) (run : RunWords)
    (before after : PortsValue) (objects : List ObjectsValue) (text : List ℕ) (status : ℕ)
    : Type 0 where
  pub acts : List (List Act)
  pub lines : List (List Line)
  pub ends : List End
  pub objects_after : List ObjectsValue
  pub done : HaveDone limits sets objects objects_after acts ends
  -- the inputs are of one type
  pub counts : AreCounts faults objects_after
  pub legal : AreLegalLines limits acts lines
  pub finished : HasFinished tell run before after acts lines ends objects_after text status
