-- What a judge of a journal is given; the seven kinds of fault, each with its row; and the first that
-- applies.
use Rattle.std.specs.Prelude.{◌≡◌, ◌≢◌, ℕ, ◌≤◌, ◌<◌, ◌⊎◌, List, [], length, map}
use Rattle.std.specs.Prelude.{Option, Some, slice_get, slice_index_or}
use Rattle.std.specs.Option.{unwrap_or}
use Rattle.limit_table.specs.Trees.{LimitsValue, halt_tree}
use Rattle.risk_board.specs.declared.hand.Line.{Line}
use Rattle.risk_journal.specs.JournalGrammar.{IsJournal}
use Rattle.risk_journal.specs.JournalGrammar.{IsFirstFault as IsFirstBadRow}
use Rattle.risk_journal.specs.declared.acts.Act.{Act}
use Rattle.screen_kit.specs.Screens.{ScreenValue}
use Rattle.session_engine.specs.Session.{armed_for}
use Rattle.journal_check.specs.declared.judging.TheConstants.{JOURNAL_MOST}
use Rattle.journal_check.specs.Firsts.{IsFirstRow}
use Rattle.journal_check.specs.RowNumbers.{act_row}
use Rattle.journal_check.specs.FarRows.{IsEarlyRow, IsFarRow}
use Rattle.journal_check.specs.SessionActs.{IsOwnSession, DiffersAt}
use Rattle.journal_check.specs.LineFaults.{IsLineFault}
use Rattle.journal_check.specs.ReadFaults.{IsWrongRead}

-- what is judged: limits, a journal's text, and each session's bytes and screens
pub record Case : Type 0 where
  pub limits : LimitsValue
  pub text : List ℕ
  pub sessions : List (List ℕ)
  pub screens : List (List ScreenValue)

-- the bytes that a source has left; of one that doesn't tell them none are known
abbrev pub told : Option (List ℕ) → List ℕ
told left = unwrap_or left []

-- the case of sources that have this left
abbrev pub case_of : LimitsValue → List ℕ → List (Option (List ℕ)) → List (List ScreenValue) → Case
case_of limits text left screens = record {
  limits = limits;
  text = text;
  sessions = map told left;
  screens = screens;
}

-- the kinds of fault, in the order in which they are looked for
pub data Kind : Type 0 where
  Text : Kind
  Count : Kind
  EndedEarly : Kind
  Tree : Kind
  Acts : Kind
  Lines : Kind
  Reads : Kind

-- the number of a kind
abbrev pub kind_number : Kind → ℕ
kind_number Text = 1
kind_number Count = 2
kind_number EndedEarly = 3
kind_number Tree = 4
kind_number Acts = 5
kind_number Lines = 6
kind_number Reads = 7

-- the text is too long, or it is no journal: then its first row that no journal has there
abbrev pub IsTextFault : List ℕ → ℕ → Type 0
IsTextFault text row =
    ((JOURNAL_MOST < length text) × (row ≡ 0))
    ⊎ ((length text ≤ JOURNAL_MOST) × IsFirstBadRow text row)

-- a session's bytes, and its screens before its first frame
abbrev pub bytes_in : Case → ℕ → List ℕ
bytes_in case session = slice_index_or case.sessions session []

abbrev pub armed_in : Case → ℕ → List ScreenValue
armed_in case session = armed_for case.limits (slice_index_or case.screens session [])

-- a session's acts are those of its input and of their own reads
abbrev pub IsSessionRight : Case → ℕ → List Act → Type 0
IsSessionRight case session own =
    IsOwnSession case.limits (armed_in case session) (bytes_in case session) own

-- the act in this row is the first of its session that isn't that of the session's input and of the
-- reads of its acts
pub record IsWrongAct (case : Case) (acts : List (List Act)) (row : ℕ) : Type 0 where
  pub session : ℕ
  pub index : ℕ
  pub own : List Act
  pub of_session : slice_get acts session ≡ Some own
  pub differs : DiffersAt case.limits (armed_in case session) (bytes_in case session) own index
  pub row_is : row ≡ act_row acts session index

-- A journal of these acts and lines has a fault of this kind, and this is its row. None is of its
-- text, since it has one.
abbrev pub IsFault : Case → List (List Act) → List (List Line) → Kind → ℕ → Type 0
IsFault case acts lines Text row = ⊥
IsFault case acts lines Count row = (length acts ≢ length case.sessions) × (row ≡ 0)
IsFault case acts lines EndedEarly row = IsFirstRow (IsEarlyRow acts) row
IsFault case acts lines Tree row = IsFirstRow (IsFarRow (halt_tree case.limits) acts lines) row
IsFault case acts lines Acts row = IsFirstRow (IsWrongAct case acts) row
IsFault case acts lines Lines row = IsLineFault acts lines row
IsFault case acts lines Reads row =
    IsFirstRow (IsWrongRead (halt_tree case.limits) acts lines) row

-- the text is a journal of these acts and lines, and not too long
pub record IsRead (text : List ℕ) (acts : List (List Act)) (lines : List (List Line)) : Type 0 where
  pub few : length text ≤ JOURNAL_MOST
  pub journal : IsJournal text acts lines

-- a journal of these acts and lines has a fault of this kind in this row, and none of a kind before it
pub record IsFirstKind (case : Case) (acts : List (List Act)) (lines : List (List Line))
    (kind row : ℕ) : Type 0 where
  pub of_kind : Kind
  pub kind_is : kind ≡ kind_number of_kind
  pub fault : IsFault case acts lines of_kind row
  pub before : (other : Kind) (at : ℕ) → kind_number other < kind_number of_kind
      → ¬ IsFault case acts lines other at

-- the text is a journal, and this is its first fault
pub record IsJournalFault (case : Case) (kind row : ℕ) : Type 0 where
  pub acts : List (List Act)
  pub lines : List (List Line)
  pub read : IsRead case.text acts lines
  pub first : IsFirstKind case acts lines kind row

-- the fault of the first kind that applies
abbrev pub IsFirstFault : Case → ℕ → ℕ → Type 0
IsFirstFault case kind row =
    ((kind ≡ kind_number Text) × IsTextFault case.text row) ⊎ IsJournalFault case kind row

-- a journal of these acts and lines has no fault of any kind
abbrev pub HasNoFault : Case → List (List Act) → List (List Line) → Type 0
HasNoFault case acts lines = (kind : Kind) (row : ℕ) → ¬ IsFault case acts lines kind row

-- no kind of fault applies
pub record IsLawful (case : Case) : Type 0 where
  pub acts : List (List Act)
  pub lines : List (List Line)
  pub read : IsRead case.text acts lines
  pub none : HasNoFault case acts lines
