-- The inputs and outputs of sessions: what is told of them, and how they are opened and closed.
use Rattle.std.specs.Prelude.{◌≡◌, ◌≢◌, ℕ, List, length, Option, Some, None, IfSome}
use Rattle.std.specs.Prelude.{MatchOption, IsSome}
use Rattle.std.specs.Prelude.{slice_get}
use Rattle.gate_ports.specs.Names.{Texts, IsOpened, IsEmptySink}
use Rattle.gate_files.specs.declared.open.Opened.{Opened}
use Rattle.gate_files.specs.Words.{FolderWords, RunWords, venue_name, client_name}
use Rattle.gate_files.specs.Words.{IsApart}
use Rattle.gate_files.specs.Ports.{PortsValue, ReadRose, WriteRose, session_name}
use Rattle.gate_files.specs.Stages.{Went, IsOwn}

-- a session's input and outputs: what is left or held, the name, and the count of faults of each
pub record ObjectsValue : Type 0 where
  pub left : Option (List ℕ)
  pub input_name : Option (List ℕ)
  pub input_faults : ℕ
  pub venue_held : Option (List ℕ)
  pub venue_name : Option (List ℕ)
  pub venue_faults : ℕ
  pub client_held : Option (List ℕ)
  pub client_name : Option (List ℕ)
  pub client_faults : ℕ

-- a session's objects as clauses name them
abbrev pub objects_of : {S K : Type 0} → (S → Option (List ℕ)) → (S → Option (List ℕ)) → (S → ℕ)
    → (K → Option (List ℕ)) → (K → Option (List ℕ)) → (K → ℕ) → Opened S K → ObjectsValue
objects_of left input_name input_faults held output_name output_faults opened = record {
  left = left opened.input;
  input_name = input_name opened.input;
  input_faults = input_faults opened.input;
  venue_held = held opened.sinks.venue;
  venue_name = output_name opened.sinks.venue;
  venue_faults = output_faults opened.sinks.venue;
  client_held = held opened.sinks.client;
  client_name = output_name opened.sinks.client;
  client_faults = output_faults opened.sinks.client;
}

-- a session's objects may be given back under their names
pub record AreOwn (run : RunWords) (told : Option Texts) (session : ℕ) (own : ObjectsValue)
    : Type 0 where
  pub input : IsOwn told (session_name run session) own.input_name
  pub venue : IsOwn told (venue_name run.out session) own.venue_name
  pub client : IsOwn told (client_name run.out session) own.client_name

-- so may those of each session
abbrev pub EachOwn : RunWords → Option Texts → List ObjectsValue → Type 0
EachOwn run told objects =
    (session : ℕ) (own : ObjectsValue) → slice_get objects session ≡ Some own
    → AreOwn run told session own

-- a session's objects are fresh: the input tells what is left of it, the outputs are empty, where the
-- folder tells its texts, and there was no fault
pub record AreFresh (told : Option Texts) (own : ObjectsValue) : Type 0 where
  pub left : IfSome told (λ _. IsSome own.left)
  pub venue_empty : IsEmptySink told own.venue_held
  pub client_empty : IsEmptySink told own.client_held
  pub input_fresh : own.input_faults ≡ 0
  pub venue_fresh : own.venue_faults ≡ 0
  pub client_fresh : own.client_faults ≡ 0

-- they are so with sessions that were made in memory too; these were opened: the input has its name's
-- text left
pub record AreNew (run : RunWords) (told : Option Texts) (session : ℕ) (own : ObjectsValue)
    : Type 0 where
  pub opened : IsOpened told (session_name run session) own.left
  pub fresh : AreFresh told own

-- each name but the outputs of the first sessions has its text, where the folder tells it
abbrev pub ChangesOutputs : FolderWords → ℕ → Option Texts → Option Texts → Type 0
ChangesOutputs out count before after =
    MatchOption before (after ≡ None)
    (λ old. (new : Texts) × (after ≡ Some new)
    × ((name : List ℕ) → IsApart out count name → new name ≡ old name))

-- The first sessions have fresh objects, and no name but their outputs has another text.
pub record HasCreated (run : RunWords) (before after : PortsValue) (objects : List ObjectsValue)
    : Type 0 where
  pub went : Went before after
  pub texts : ChangesOutputs run.out (length objects) before.texts after.texts
  pub each : (session : ℕ) (own : ObjectsValue) → slice_get objects session ≡ Some own
      → AreFresh before.texts own
  pub own : EachOwn run after.texts objects

-- each count of an input's faults is that of an input of this type
abbrev pub AreCounts : {S : Type 0} → (S → ℕ) → List ObjectsValue → Type 0
AreCounts {S} faults objects =
    (session : ℕ) (own : ObjectsValue) → slice_get objects session ≡ Some own
    → (input : S) × (own.input_faults ≡ faults input)

-- The objects of the first sessions were opened and made, and no other name has another text.
pub record HasOpened (run : RunWords) (before after : PortsValue) (objects : List ObjectsValue)
    : Type 0 where
  pub went : Went before after
  pub texts : ChangesOutputs run.out (length objects) before.texts after.texts
  pub each : (session : ℕ) (own : ObjectsValue) → slice_get objects session ≡ Some own
      → AreNew run before.texts session own
  pub own : EachOwn run after.texts objects

-- a session's outputs have what its sinks held
pub record HoldsOutputs (run : RunWords) (texts : Texts) (session : ℕ) (own : ObjectsValue)
    : Type 0 where
  pub to_venue : List ℕ
  pub to_client : List ℕ
  pub venue : texts (venue_name run.out session) ≡ Some to_venue
  pub client : texts (client_name run.out session) ≡ Some to_client
  pub venue_told : IfSome own.venue_held (λ held. held ≡ to_venue)
  pub client_told : IfSome own.client_held (λ held. held ≡ to_client)

-- so have those of each session
abbrev pub EachHolds : RunWords → Texts → List ObjectsValue → Type 0
EachHolds run texts objects =
    (session : ℕ) (own : ObjectsValue) → slice_get objects session ≡ Some own
    → HoldsOutputs run texts session own

-- a fault of a session's objects is one of its names
pub record HasCauses (run : RunWords) (before after : PortsValue) (session : ℕ) (own : ObjectsValue)
    : Type 0 where
  pub input : own.input_faults ≢ 0 → ReadRose before after (session_name run session)
  pub venue : own.venue_faults ≢ 0 → WriteRose before after (venue_name run.out session)
  pub client : own.client_faults ≢ 0 → WriteRose before after (client_name run.out session)

-- so is one of each session's
abbrev pub EachHasCauses : RunWords → PortsValue → PortsValue → List ObjectsValue → Type 0
EachHasCauses run before after objects =
    (session : ℕ) (own : ObjectsValue) → slice_get objects session ≡ Some own
    → HasCauses run before after session own

-- The objects of the first sessions were given back and closed.
pub record HasClosed (run : RunWords) (before after : PortsValue) (objects : List ObjectsValue)
    : Type 0 where
  pub went : Went before after
  pub texts : ChangesOutputs run.out (length objects) before.texts after.texts
  pub holds : IfSome before.texts (λ old. IfSome after.texts (λ new. EachHolds run new objects))
  pub causes : EachHasCauses run before after objects
