-- What a load that was made and run did.
use Rattle.std.specs.Prelude.{◌≡◌, ℕ, ◌<◌, List, [], length, map, slice_get, sum_by, codes}
use Rattle.std.specs.Prelude.{Some, IsSome, Bool, false, ◌⊎◌}
use Rattle.std.specs.List.{list_any, range_with_len}
use Rattle.limit_table.specs.Counted.{counted_for}
use Rattle.limit_table.specs.Files.{IsLimitFile}
use Rattle.limit_table.specs.declared.limits.Limits.{Limits}
use Rattle.make_load.specs.Loads.{count_in_load, limit_text, session_text, session_texts}
use Rattle.make_load.specs.declared.summary.Asked.{Asked}
use Rattle.make_load.specs.declared.summary.Counts.{Counts}
use Rattle.risk_board.specs.declared.hand.Line.{Line}
use Rattle.risk_journal.specs.declared.acts.Act.{Act}
use Rattle.risk_journal.specs.declared.acts.End.{End}
use Rattle.session_engine.specs.Session.{armed_for}
use Rattle.gate_program.specs.declared.told.Told.TheVariants as told
use Rattle.gate_files.specs.Early.{LeavesEmpty}
use Rattle.gate_program.specs.Gate.{HasJournal}
use Rattle.gate_files.specs.Stops.{KeepsOthers}
use Rattle.gate_files.specs.Told.{Tells, write_fault_text}
use Rattle.gate_files.specs.Ports.{PortsValue, OutputRose}
use Rattle.gate_program.specs.Run.{EndHolds, IsHistory}
use Rattle.gate_files.specs.Standing.{is_cut_short}
use Rattle.gate_files.specs.Standing.{is_memory, is_read_fault, standing_of}
use Rattle.gate_program.specs.Telling.{told_of}
use Rattle.gate_files.specs.declared.names.OutputFiles.TheVariants as files
use Rattle.gate_files.specs.Words.{FolderWords, RunWords, venue_name}

-- the folder of a load's outputs
abbrev pub load_folder : FolderWords
load_folder = record { name = codes "load"; files = files.Run }

-- A load as a run: no file is read, and since its inputs have no names each session goes by that of its
-- output to the venue.
abbrev pub load_run : Asked → RunWords
load_run asked = record {
  limits = [];
  out = load_folder;
  sessions = map (venue_name load_folder) (range_with_len 0 asked.sessions);
}

-- the input of a session of a load
abbrev pub input_of : Asked → ℕ → List ℕ
input_of asked session = session_text asked.number asked.orders session

-- how many messages of this type a load has
abbrev pub count_of : List ℕ → Asked → ℕ
count_of kind asked = count_in_load kind asked.number asked.sessions asked.orders

-- what a load has, before anything was read
abbrev pub counts_of : Asked → Counts
counts_of asked = record {
  new = count_of (codes "D") asked;
  cancel = count_of (codes "F") asked;
  report = count_of (codes "8") asked;
  bytes = sum_by length (session_texts asked.number asked.sessions asked.orders);
  reads = 0;
}

-- The limits with which a load of so many sessions runs: those of its limit file, with the quota that
-- counts.
pub record HasLoadLimits (sessions : ℕ) (limits : Limits) : Type 0 where
  pub file : Limits
  pub file_is : IsLimitFile limit_text file
  pub counted : limits ≡ counted_for sessions file

-- An output of a session could not be created. No session ran.
pub record HasRefusedLoadOutput (asked : Asked) (before after : PortsValue) (status : ℕ) : Type 0
  where
    pub session : ℕ
    pub in_range : session < asked.sessions
    pub rose : OutputRose before after (load_run asked) session
    pub left : LeavesEmpty (load_run asked) session before.texts after.texts
    pub others : KeepsOthers before after (load_run asked)
    pub told : Tells before after write_fault_text 6 status

-- The load's sessions were run, with no screens: each did what its end says, none failed to be read or
-- to be whole, all together have one legal history in each tree, the journal tells it, and what is told
-- is the summary where all was done.
pub record HasMade (asked : Asked) (before after : PortsValue) (status : ℕ) : Type 0 where
  pub limits : Limits
  pub acts : List (List Act)
  pub ends : List End
  pub lines : List (List Line)
  -- whether the journal could not be written
  pub refused : Bool
  pub limits_are : HasLoadLimits asked.sessions limits
  -- a session that wanted memory gives 8, which stands by itself
  pub remembered : list_any is_memory ends ≡ false
  pub no_read_fault : list_any is_read_fault ends ≡ false
  pub whole : list_any is_cut_short ends ≡ false
  pub act_count : length acts ≡ asked.sessions
  pub end_count : length ends ≡ asked.sessions
  pub each : (session : ℕ) (own : List Act) (end : End) → slice_get acts session ≡ Some own
      → slice_get ends session ≡ Some end
      → EndHolds limits (armed_for limits []) before after (load_run asked) session
      (input_of asked session) own end
  pub history : IsHistory limits acts lines
  pub journal : HasJournal before after (load_run asked) acts lines refused
  pub others : KeepsOthers before after (load_run asked)
  -- a folder that told its texts before goes on telling them
  pub tells : IsSome before.texts → IsSome after.texts
  pub told : let standing = standing_of ends refused in
      Tells before after (told_of (told.Summary asked (counts_of asked)) limits acts ends lines
      standing) standing status

-- a load whose outputs could not all be made, or that was run
abbrev pub LoadWent : Asked → PortsValue → PortsValue → ℕ → Type 0
LoadWent asked before after status =
    HasRefusedLoadOutput asked before after status ⊎ HasMade asked before after status
