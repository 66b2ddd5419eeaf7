-- What stands when the sessions of a filter have ended.
use Rattle.std.specs.Prelude.{◌≡◌, ℕ, List, map, Bool}
use Rattle.limit_table.specs.declared.limits.Limits.{Limits}
use Rattle.risk_board.specs.declared.hand.Line.{Line}
use Rattle.risk_journal.specs.declared.acts.Act.{Act}
use Rattle.risk_journal.specs.declared.acts.End.{End}
use Rattle.risk_journal.specs.TotalsText.{status_line}
use Rattle.gate_files.specs.Words.{RunWords}
use Rattle.gate_files.specs.Ports.{PortsValue}
use Rattle.gate_files.specs.Objects.{ObjectsValue}
use Rattle.gate_files.specs.Standing.{standing_of}
use Rattle.session_tasks.specs.Kept.{HasEnded, HasKept}
use Rattle.cross_guard.specs.Told.{Placing, with_places}
use Rattle.cross_command.specs.History.{AreLegalLines}
use Rattle.cross_command.specs.Rules.{follows, stops}

-- the acts of all sessions with these places of their reads
abbrev pub all_with_places : Placing → List (List Act) → List (List Act)
all_with_places place acts = map (with_places place) acts

-- The acts of sessions got the places of their reads, and are with the lines of each tree one legal
-- history.
pub record ArePlaced (limits : Limits) (acts placed : List (List Act)) (lines : List (List Line))
    : Type 0 where
  pub place : Placing
  pub placed_are : placed ≡ all_with_places place acts
  pub legal : AreLegalLines limits placed lines

-- the status that stands is by the ends and by whether the journal was refused, and is told
pub record HasAnswer (ends : List End) (refused : Bool) (text : List ℕ) (status : ℕ) : Type 0 where
  pub stands : status ≡ standing_of ends refused
  pub told : text ≡ status_line status

-- The acts of sessions that ended got the places of their reads, and stand in the journal with the
-- lines of each tree.
pub record HaveStood (limits : Limits) (run : RunWords) (before after : PortsValue)
    (acts : List (List Act)) (ends : List End) (objects : List ObjectsValue) (text : List ℕ)
    (status : ℕ) : Type 0 where
  pub placed : List (List Act)
  pub lines : List (List Line)
  pub refused : Bool
  pub placed_are : ArePlaced limits acts placed lines
  pub kept : HasKept run before after placed lines objects refused
  pub answer : HasAnswer ends refused text status

-- The sessions that were opened ran over a forest of their own, were closed, and stand in the
-- journal, with the lines of each tree.
pub record HaveEnded {S : Type 0} (faults : S → ℕ) (limits : Limits) (run : RunWords)
    (before after : PortsValue) (objects : List ObjectsValue) (text : List ℕ) (status : ℕ) : Type 0
  where
    pub acts : List (List Act)
    pub lines : List (List Line)
    pub ends : List End
    pub refused : Bool
    pub ended : HasEnded faults (follows limits) (stops limits) run before after objects acts ends
        lines refused
    pub legal : AreLegalLines limits acts lines
    pub answer : HasAnswer ends refused text status
