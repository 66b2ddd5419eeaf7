-- Closing and opening, by the names as the program keeps them.
use Rattle.std.proofs.Common.{◌≡◌, ◌≢◌, ℕ, ◌<◌, ◌+◌, List, [], ◌∷◌, ◌++◌, length, map, take}
use Rattle.std.proofs.Common.{sym, ap, ◌∙◌}
use Rattle.std.proofs.Common.{arith, subst, String, Global, string_bytes, length-take}
use Rattle.std.proofs.Common.{get_or}
use Rattle.std.proofs.lemmas.Option.{get_or_from_slice_get}
use Rattle.std.specs.Prelude.{Option, Some, slice_get}
use Rattle.std.specs.Option.{option_map}
use Rattle.gate_ports.specs.Names.{Texts}
use Rattle.gate_files.specs.declared.status.Status.{Status}
use Rattle.gate_files.specs.Words.{RunWords, IsApart, venue_name, client_name}
use Rattle.gate_files.specs.Early.{LeavesEmpty}
use Rattle.gate_files.specs.Ports.{PortsValue, ReadRose, WriteRose, session_name}
use Rattle.gate_files.specs.Stages.{Went, IsOwn, AreClosed, IsUnopened, IsNewSource, IsNewSink}
use Rattle.gate_files.specs.Stages.{with_two}
use Rattle.gate_files.specs.Stages.{HasUnopened}
use Rattle.gate_files.specs.Objects.{ObjectsValue, HasOpened, HasClosed}
use Rattle.gate_files.proofs.Lists.{take_one, map_at}
use Rattle.gate_files.proofs.Folder.{ClosesOne, OpensOne, one_closed, one_opened, unopened_among}

-- the name of a session's input
pub named : (run : RunWords) (sessions : List (String Global)) (session : ℕ) (name : String Global)
    → run.sessions ≡ map string_bytes sessions → slice_get sessions session ≡ Some name
    → string_bytes name ≡ session_name run session
named run sessions session name are at =
    sym (ap (λ (l : List (List ℕ)). get_or l session []) are
    ∙ get_or_from_slice_get (map string_bytes sessions) session (string_bytes name) []
    (map_at string_bytes sessions session name at))

-- an object under an equal name
pub own_as : (told : Option Texts) (name other : List ℕ) (own : Option (List ℕ)) → other ≡ name
    → IsOwn told name own → IsOwn told other own
own_as told name other own is owned = subst (λ (n : List ℕ). IsOwn told n own) (sym is) owned

-- a session was closed, by the names that it has
pub closes_named : (run : RunWords) (before after : PortsValue) (session : ℕ) (own : ObjectsValue)
    (name venue client : List ℕ) → name ≡ session_name run session
    → venue ≡ venue_name run.out session → client ≡ client_name run.out session
    → Went before after
    → AreClosed before.texts after.texts venue client own.venue_held own.client_held
    → (own.input_faults ≢ 0 → ReadRose before after name)
    → (own.venue_faults ≢ 0 → WriteRose before after venue)
    → (own.client_faults ≢ 0 → WriteRose before after client) → ClosesOne run before after session
    own
closes_named run before after session own name venue client name_is venue_is client_is went texts
    input
    to_venue to_client = record {
      went = went;
      texts = subst (λ (v : List ℕ). AreClosed before.texts after.texts v
          (client_name run.out session)
          own.venue_held own.client_held) venue_is
          (subst (λ (c : List ℕ). AreClosed before.texts after.texts venue c own.venue_held
          own.client_held) client_is texts);
      causes = record {
        input = λ some. subst (λ (n : List ℕ). ReadRose before after n) name_is (input some);
        venue = λ some. subst (λ (n : List ℕ). WriteRose before after n) venue_is (to_venue some);
        client = λ some. subst (λ (n : List ℕ). WriteRose before after n) client_is
            (to_client some);
      };
    }

-- one session more of those that are to be closed
pub next_closed : (run : RunWords) (before now after : PortsValue) (objects : List ObjectsValue)
    (session : ℕ) (own : ObjectsValue) → slice_get objects session ≡ Some own
    → session < length objects → HasClosed run before now (take session objects)
    → ClosesOne run now after session own
    → HasClosed run before after (take (session + 1) objects)
next_closed run before now after objects session own at below closed closes =
    let taken : length (take session objects) ≡ session = omega (arith, length-take session objects)
    in
    subst (λ (l : List ObjectsValue). HasClosed run before after l)
    (sym (take_one objects session own at))
    (one_closed run before now after (take session objects) own closed
    (subst (λ (n : ℕ). ClosesOne run now after n own) (sym taken) closes))

-- a session was opened, by the names that it has
pub opens_named : (run : RunWords) (before after : PortsValue) (session : ℕ) (own : ObjectsValue)
    (name venue client : List ℕ) → name ≡ session_name run session
    → venue ≡ venue_name run.out session → client ≡ client_name run.out session
    → Went before after
    → after.texts ≡ option_map (with_two venue [] client []) before.texts
    → IsNewSource before.texts name own.left own.input_name own.input_faults
    → IsNewSink before.texts venue own.venue_held own.venue_name own.venue_faults
    → IsNewSink before.texts client own.client_held own.client_name own.client_faults
    → OpensOne run before after session own
opens_named run before after session own name venue client name_is venue_is client_is went texts
    input
    to_venue to_client = record {
      went = went;
      texts = subst (λ (v : List ℕ). after.texts
          ≡ option_map (with_two v [] (client_name run.out session) []) before.texts) venue_is
          (subst (λ (c : List ℕ). after.texts ≡ option_map (with_two venue [] c []) before.texts)
          client_is texts);
      input = subst (λ (n : List ℕ). IsNewSource before.texts n own.left own.input_name
          own.input_faults) name_is input;
      venue = subst (λ (n : List ℕ). IsNewSink before.texts n own.venue_held own.venue_name
          own.venue_faults) venue_is to_venue;
      client = subst (λ (n : List ℕ). IsNewSink before.texts n own.client_held own.client_name
          own.client_faults) client_is to_client;
    }

-- one session more was opened
pub next_opened : (run : RunWords) (before now after : PortsValue) (made later : List ObjectsValue)
    (own : ObjectsValue) (session : ℕ) → length made ≡ session
    → IsApart run.out session (session_name run session) → HasOpened run before now made
    → OpensOne run now after session own → later ≡ made ++ own ∷ [] → HasOpened run before after
    later
next_opened run before now after made later own session many apart opened opens is =
    subst (λ (l : List ObjectsValue). HasOpened run before after l) (sym is)
    (one_opened run before now after made own
    (subst (λ (n : ℕ). IsApart run.out n (session_name run n)) (sym many) apart) opened
    (subst (λ (n : ℕ). OpensOne run now after n own) (sym many) opens))

-- a session wasn't opened, by the names that it has
pub unopened_named : (run : RunWords) (before now after last : PortsValue) (session : ℕ)
    (s : Status)
    (name venue client : List ℕ) → session < length run.sessions → name ≡ session_name run session
    → venue ≡ venue_name run.out session → client ≡ client_name run.out session
    → Went before now → Went after last → IsUnopened now after name venue client s
    → LeavesEmpty run session before.texts last.texts → HasUnopened run before last s
unopened_named run before now after last session s name venue client below name_is venue_is
    client_is
    earlier later unopened left = (
      session,
      below,
      unopened_among before now after last _ _ _ s earlier later
          (subst (λ (n : List ℕ). IsUnopened now after n (venue_name run.out session)
          (client_name run.out session) s) name_is
          (subst (λ (v : List ℕ). IsUnopened now after name v (client_name run.out session) s)
          venue_is
          (subst (λ (c : List ℕ). IsUnopened now after name venue c s) client_is unopened))),
      left,
    )
