-- What each stage of a run leaves in its folder.
use Rattle.std.specs.Prelude.{◌≡◌, ℕ, List, ◌++◌, length, Option, Some, None, IfSome, ◌⊎◌}
use Rattle.std.specs.Prelude.{MatchOption, false, ◌<◌}
use Rattle.std.specs.Str.{bytes_eq}
use Rattle.gate_ports.specs.Faults.{NeverFalls}
use Rattle.gate_ports.specs.Names.{Texts, with_text, IsThere, IsOpened, IsEmptySink, MeansName}
use Rattle.gate_files.specs.declared.status.Status.{Status}
use Rattle.gate_files.specs.declared.status.Status.TheVariants as status
use Rattle.gate_files.specs.Words.{RunWords, venue_name, client_name}
use Rattle.gate_files.specs.Ports.{PortsValue, ReadRose, WriteRose, session_name}
use Rattle.limit_table.specs.Files.{IsFirstFault}
use Rattle.limit_table.specs.declared.fault.LimitFault.{LimitFault}
use Rattle.limit_table.specs.declared.fault.LimitFault.TheVariants as fault
use Rattle.gate_files.specs.Early.{LeavesEmpty}
use Rattle.gate_files.specs.Stops.{IsRefused}

-- a folder as clauses name it, beside a standard output that got this text
abbrev pub folder_with : {D : Type 0} → (D → Option Texts) → (D → List ℕ → ℕ) → (D → List ℕ → ℕ)
    → List ℕ → D → PortsValue
folder_with texts read_faults write_faults text folder = record {
  texts = texts folder;
  read_faults = read_faults folder;
  write_faults = write_faults folder;
  held = Some text;
  out_faults = 0;
}

-- a folder as clauses name it, beside a standard output that tells nothing
abbrev pub folder_of : {D : Type 0} → (D → Option Texts) → (D → List ℕ → ℕ) → (D → List ℕ → ℕ) → D
    → PortsValue
folder_of texts read_faults write_faults folder = record {
  texts = texts folder;
  read_faults = read_faults folder;
  write_faults = write_faults folder;
  held = None;
  out_faults = 0;
}

-- the names that were there are there
abbrev pub KeepsNames : Option Texts → Option Texts → Type 0
KeepsNames before after = (name : List ℕ) → IsThere before name → IsThere after name

-- no count of faults fell, and no name went away
pub record Went (before after : PortsValue) : Type 0 where
  pub read : NeverFalls before.read_faults after.read_faults
  pub written : NeverFalls before.write_faults after.write_faults
  pub names : KeepsNames before.texts after.texts

-- the name's text is these bytes, or goes on behind so many of them, where the folder tells it
abbrev pub HasFront : Option Texts → List ℕ → ℕ → List ℕ → Type 0
HasFront told name most bytes =
    IfSome told (λ texts. (text : List ℕ) × (texts name ≡ Some text)
    × ((text ≡ bytes) ⊎ ((length bytes ≡ most) × (rest : List ℕ) × (text ≡ bytes ++ rest))))

-- why a name was not read
abbrev pub IsUnread : PortsValue → PortsValue → List ℕ → Status → Type 0
IsUnread before after name status.ReadFault = ReadRose before after name
IsUnread before after name status.Memory = Unit {0}
IsUnread before after name other = ⊥

-- the status of a text that is refused for this fault
abbrev pub status_of_fault : LimitFault → Status
status_of_fault fault.Memory = status.Memory
status_of_fault other = status.Limits other

-- why a text gives no limits
abbrev pub GivesNoLimits : List ℕ → Status → Type 0
GivesNoLimits text (status.Limits why) = IsFirstFault text why
GivesNoLimits text status.Memory = Unit {0}
GivesNoLimits text other = ⊥

-- why there are no limits
abbrev pub HasLimitsFault : PortsValue → PortsValue → List ℕ → Status → Type 0
HasLimitsFault before after name status.ReadFault = ReadRose before after name
HasLimitsFault before after name (status.Limits why) = IsRefused before.texts name why
HasLimitsFault before after name status.Memory = Unit {0}
HasLimitsFault before after name other = ⊥

-- why an output was not made
abbrev pub IsUnmade : PortsValue → PortsValue → List ℕ → List ℕ → Status → Type 0
IsUnmade before after venue client status.WriteFault =
    WriteRose before after venue ⊎ WriteRose before after client
IsUnmade before after venue client status.Memory = Unit {0}
IsUnmade before after venue client other = ⊥

-- why a session was not opened
abbrev pub IsUnopened : PortsValue → PortsValue → List ℕ → List ℕ → List ℕ → Status → Type 0
IsUnopened before after session venue client status.ReadFault = ReadRose before after session
IsUnopened before after session venue client status.WriteFault =
    WriteRose before after venue ⊎ WriteRose before after client
IsUnopened before after session venue client status.Memory = Unit {0}
IsUnopened before after session venue client other = ⊥

-- the texts with two names set
abbrev pub with_two : List ℕ → List ℕ → List ℕ → List ℕ → Texts → Texts
with_two venue to_venue client to_client texts =
    with_text client to_client (with_text venue to_venue texts)

-- a new source over a name's text
pub record IsNewSource (told : Option Texts) (name : List ℕ) (left own : Option (List ℕ))
    (faults : ℕ)
    : Type 0 where
  pub opened : IsOpened told name left
  pub means : MeansName own name
  pub fresh : faults ≡ 0

-- a new sink for a name
pub record IsNewSink (told : Option Texts) (name : List ℕ) (held own : Option (List ℕ)) (faults : ℕ)
    : Type 0 where
  pub empty : IsEmptySink told held
  pub means : MeansName own name
  pub fresh : faults ≡ 0

-- an object that a name may be given back for
pub record IsOwn (told : Option Texts) (name : List ℕ) (own : Option (List ℕ)) : Type 0 where
  pub means : MeansName own name
  pub there : IsThere told name

-- Two names have what their sinks held, and each other name its text, where the folder tells them.
-- A
-- folder that tells no texts tells none afterwards.
abbrev pub AreClosed : Option Texts → Option Texts → List ℕ → List ℕ → Option (List ℕ)
    → Option (List ℕ) → Type 0
AreClosed before after venue client held_venue held_client =
    MatchOption before (after ≡ None)
    (λ texts. (to_venue : List ℕ) × (to_client : List ℕ)
    × (after ≡ Some (with_two venue to_venue client to_client texts))
    × IfSome held_venue (λ own. own ≡ to_venue) × IfSome held_client (λ own. own ≡ to_client))

-- each other name has its text, where the folder tells it, and a folder that tells its texts goes on
-- telling them
abbrev pub ChangesOnly : Option Texts → Option Texts → List ℕ → Type 0
ChangesOnly before after name =
    MatchOption before (after ≡ None)
    (λ old. (new : Texts) × (after ≡ Some new)
    × ((other : List ℕ) → bytes_eq other name ≡ false → new other ≡ old other))

-- why a session of the run was not opened, and what is left then
abbrev pub HasUnopened : RunWords → PortsValue → PortsValue → Status → Type 0
HasUnopened run before after standing =
    (session : ℕ) × (session < length run.sessions)
    × IsUnopened before after (session_name run session) (venue_name run.out session)
    (client_name run.out session) standing
    × LeavesEmpty run session before.texts after.texts

-- why an output of a session of a load was not made, and what is left then
abbrev pub HasUnmade : RunWords → PortsValue → PortsValue → Status → Type 0
HasUnmade run before after standing =
    (session : ℕ) × (session < length run.sessions)
    × IsUnmade before after (venue_name run.out session) (client_name run.out session) standing
    × LeavesEmpty run session before.texts after.texts
