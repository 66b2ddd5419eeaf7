-- Which texts are limit files, which limits they hold, and otherwise which fault is the first.
use Rattle.std.specs.Prelude.{◌≡◌, ℕ, ◌<◌, ◌≤◌, ◌⊎◌, List, [], ◌∷◌, ◌++◌, length, Some, None}
use Rattle.std.specs.Prelude.{Err, IsOk}
use Rattle.csv.specs.Reading.{Reached, AreRecords, default_config, strip_bom}
use Rattle.csv.specs.declared.parser.State.{State}
use Rattle.csv.specs.declared.parser.State.TheVariants as state
use Rattle.limit_table.specs.Faults.{entries_of, row_at, row_after}
use Rattle.limit_table.specs.Tables.{limits_of, firm_of}
use Rattle.limit_table.specs.Versions.{version_of, body_of}
use Rattle.limit_table.specs.declared.version.Version.{Version}
use Rattle.limit_table.specs.declared.kind.Entry.{Entry}
use Rattle.limit_table.specs.declared.kind.Cause.{Cause}
use Rattle.limit_table.specs.declared.kind.Cause.TheVariants as cause
use Rattle.limit_table.specs.declared.fault.LimitFault.{LimitFault}
use Rattle.limit_table.specs.declared.fault.LimitFault.TheVariants as fault
use Rattle.limit_table.specs.declared.limits.Limits.{Limits}

-- the most bytes of a limit file
abbrev pub bytes_most : ℕ
bytes_most = 1048576

-- the text begins with these rows: commas, double quotes, no header row, a byte order mark left out
abbrev pub BeginsWithRows : List ℕ → List (List (List ℕ)) → Type 0
BeginsWithRows bytes rows =
    (s : State) × (left : List ℕ)
    × Reached default_config state.StartRecord (strip_bom bytes) rows s left

-- these are all the rows of the text
abbrev pub AreRows : List ℕ → List (List (List ℕ)) → Type 0
AreRows bytes rows = AreRecords default_config state.StartRecord (strip_bom bytes) rows

-- nothing is wrong with any of the rows in a file of this version
abbrev pub AreSound : Version → List (List (List ℕ)) → Type 0
AreSound version rows = (place : ℕ) → place < length rows → IsOk (row_at version rows place)

-- the fault with this cause in the row with this number, from 1
abbrev pub fault_at : ℕ → Cause → LimitFault
fault_at row cause.RowShape = fault.RowShape row
fault_at row cause.Kind = fault.Kind row
fault_at row cause.Number = fault.Number row
fault_at row cause.Name = fault.Name row
fault_at row cause.Repeated = fault.Repeated row
fault_at row cause.TooMany = fault.TooMany row
fault_at row cause.Band = fault.Band row

-- these rows of a file, but the one that tells its version, are sound and set these
pub record SetEntries (rows : List (List (List ℕ))) (entries : List Entry) : Type 0 where
  pub sound : AreSound (version_of rows) (body_of rows)
  pub set : entries ≡ entries_of (version_of rows) (body_of rows)

-- the text is sound rows, which set these
pub record HoldsEntries (bytes : List ℕ) (entries : List Entry) : Type 0 where
  pub rows : List (List (List ℕ))
  pub all : AreRows bytes rows
  pub sets : SetEntries rows entries

-- a limit file sets these
abbrev pub AreOfFile : List Entry → Type 0
AreOfFile entries =
    (bytes : List ℕ) × (length bytes ≤ bytes_most) × HoldsEntries bytes entries

-- the text is a limit file with these limits
pub record IsLimitFile (bytes : List ℕ) (limits : Limits) : Type 0 where
  pub few : length bytes ≤ bytes_most
  pub entries : List Entry
  pub holds : HoldsEntries bytes entries
  pub set : limits_of entries ≡ Some limits

-- the fault is that of the last of these rows, after sound ones
pub record IsLastFault (rows : List (List (List ℕ))) (why : LimitFault) : Type 0 where
  pub earlier : List (List (List ℕ))
  pub row : List (List ℕ)
  pub last : body_of rows ≡ earlier ++ row ∷ []
  pub sound : AreSound (version_of rows) earlier
  pub wrong : Cause
  pub cause : row_after (version_of rows) (entries_of (version_of rows) earlier) row ≡ Err wrong
  pub fault : why ≡ fault_at (length rows) wrong

-- the text begins with rows, of which the last has this fault
pub record IsRowFault (bytes : List ℕ) (why : LimitFault) : Type 0 where
  pub rows : List (List (List ℕ))
  pub begins : BeginsWithRows bytes rows
  pub last : IsLastFault rows why

-- the fault is that the text is longer than a limit file
pub record IsTooLong (bytes : List ℕ) (why : LimitFault) : Type 0 where
  pub long : bytes_most < length bytes
  pub fault : why ≡ fault.TooMany 0

-- the fault is that no row sets the firm's limit, though all rows are sound
pub record LacksFirm (bytes : List ℕ) (why : LimitFault) : Type 0 where
  pub few : length bytes ≤ bytes_most
  pub entries : List Entry
  pub holds : HoldsEntries bytes entries
  pub none : firm_of entries ≡ None
  pub fault : why ≡ fault.NoFirm

-- the fault of a text that isn't a limit file: its length, the first row with one, or no firm
abbrev pub IsFirstFault : List ℕ → LimitFault → Type 0
IsFirstFault bytes why =
    IsTooLong bytes why ⊎ ((length bytes ≤ bytes_most) × IsRowFault bytes why) ⊎ LacksFirm bytes why

-- a file can hold these limits
abbrev pub IsHeldByFile : Limits → Type 0
IsHeldByFile limits = (bytes : List ℕ) × IsLimitFile bytes limits
