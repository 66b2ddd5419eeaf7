-- The sessions of a load, one after another: their outputs are made beside inputs in memory.
use Rattle.std.proofs.Common.{◌≡◌, ℕ, ◌+◌, ◌<◌, List, [], ◌∷◌, ◌++◌, length, map, take, sym, ap}
use Rattle.std.proofs.Common.{◌∙◌, arith, subst, inl, inr, get_or}
use Rattle.std.proofs.Common.{string_bytes}
use Rattle.std.proofs.lemmas.List.{map-append}
use Rattle.std.proofs.lemmas.Option.{get_or_from_slice_get}
use Rattle.std.specs.Prelude.{Option, Some, None, IfSome, IsSome, slice_get}
use Rattle.std.specs.Option.{option_map}
use Rattle.gate_ports.specs.Names.{Texts, IsThere, MeansName}
use Rattle.gate_files.specs.declared.names.Outputs.{Outputs}
use Rattle.gate_files.specs.declared.status.Status.{Status}
use Rattle.gate_files.specs.declared.status.Status.TheVariants as status
use Rattle.gate_files.specs.Early.{LeavesEmpty}
use Rattle.gate_files.specs.Words.{RunWords, venue_name, client_name}
use Rattle.gate_files.specs.Ports.{PortsValue, session_name}
use Rattle.gate_files.specs.Stages.{Went, IsNewSink, IsUnmade, HasUnmade, with_two}
use Rattle.gate_files.specs.Objects.{ObjectsValue, AreFresh, AreOwn, HasCreated}
use Rattle.gate_files.proofs.Folder.{went_on, went_nowhere, texts_more, empty_from}
use Rattle.gate_files.proofs.Folder.{are_own_later, changes_nothing, venue_made, client_made}
use Rattle.gate_files.proofs.Lists.{map_at, pushed_at, take_one}

-- A session's outputs were made, beside an input that has no name of its own and no fault.
pub record CreatesOne (run : RunWords) (before after : PortsValue) (session : ℕ)
    (own : ObjectsValue) : Type 0 where
  pub went : Went before after
  pub texts : after.texts
      ≡ option_map (with_two (venue_name run.out session) [] (client_name run.out session) [])
      before.texts
  pub left : IsSome own.left
  pub input_fresh : own.input_faults ≡ 0
  pub unnamed : own.input_name ≡ None
  pub named : session_name run session ≡ venue_name run.out session
  pub venue : IsNewSink before.texts (venue_name run.out session) own.venue_held own.venue_name
      own.venue_faults
  pub client : IsNewSink before.texts (client_name run.out session) own.client_held own.client_name
      own.client_faults

-- they may be given back
created_are_own : (run : RunWords) (before after : PortsValue) (session : ℕ) (own : ObjectsValue)
    → CreatesOne run before after session own → AreOwn run after.texts session own
created_are_own run before after session own creates = record {
  input = record {
    means = subst (λ (n : Option (List ℕ)). MeansName n (session_name run session))
        (sym creates.unnamed) tt;
    there = subst (λ (n : List ℕ). IsThere after.texts n) (sym creates.named)
        (venue_made _ _ _ _ creates.texts);
  };
  venue = record { means = creates.venue.means; there = venue_made _ _ _ _ creates.texts };
  client = record { means = creates.client.means; there = client_made _ _ _ _ creates.texts };
}

tells_left : (told : Option Texts) (left : Option (List ℕ)) → IsSome left
    → IfSome told (λ _. IsSome left)
tells_left None left some = tt
tells_left (Some texts) left some = some

-- one session more has its outputs
one_created : (run : RunWords) (before now after : PortsValue) (made : List ObjectsValue)
    (own : ObjectsValue) → HasCreated run before now made
    → CreatesOne run now after (length made) own → HasCreated run before after (made ++ own ∷ [])
one_created run before now after made own created creates = record {
  went = went_on before now after created.went creates.went;
  texts = texts_more run made own before.texts now.texts after.texts created.texts creates.texts;
  each = λ session one is. elim (pushed_at made own session one is) [
    | inl here ↦ created.each session one here
    | inr last ↦ subst (λ (v : ObjectsValue). AreFresh before.texts v) last.1 is_fresh
  ];
  own = λ session one is. elim (pushed_at made own session one is) [
    | inl here ↦ are_own_later run now after session one creates.went (created.own session one here)
    | inr last ↦ subst (λ (v : ObjectsValue). AreOwn run after.texts session v) last.1
        (subst (λ (n : ℕ). AreOwn run after.texts n own) (sym last.0)
        (created_are_own run now after (length made) own creates))
  ];
} where
  is_fresh : AreFresh before.texts own
  is_fresh = record {
    left = tells_left before.texts own.left creates.left;
    venue_empty = empty_from run made own before.texts now.texts _ created.texts
        creates.venue.empty;
    client_empty = empty_from run made own before.texts now.texts _ created.texts
        creates.client.empty;
    input_fresh = creates.input_fresh;
    venue_fresh = creates.venue.fresh;
    client_fresh = creates.client.fresh;
  }

-- none has yet
pub none_created : (run : RunWords) (before : PortsValue) → HasCreated run before before []
none_created run before = record {
  went = went_nowhere before;
  texts = changes_nothing run.out before.texts;
  each = λ session own is. absurd cc;
  own = λ session own is. absurd cc;
}

-- by the session that it is
pub next_created : (run : RunWords) (before now after : PortsValue) (made later : List ObjectsValue)
    (own : ObjectsValue) (session : ℕ) → length made ≡ session → HasCreated run before now made
    → CreatesOne run now after session own → later ≡ made ++ own ∷ []
    → HasCreated run before after later
next_created run before now after made later own session many created creates is =
    subst (λ (l : List ObjectsValue). HasCreated run before after l) (sym is)
    (one_created run before now after made own created
    (subst (λ (n : ℕ). CreatesOne run now after n own) (sym many) creates))

-- a session was made by the names that its outputs have
pub creates_named : (run : RunWords) (before after : PortsValue) (session : ℕ) (own : ObjectsValue)
    (venue client : List ℕ) → venue ≡ venue_name run.out session
    → client ≡ client_name run.out session → session_name run session ≡ venue
    → IsSome own.left → own.input_faults ≡ 0 → own.input_name ≡ None → Went before after
    → after.texts ≡ option_map (with_two venue [] client []) before.texts
    → IsNewSink before.texts venue own.venue_held own.venue_name own.venue_faults
    → IsNewSink before.texts client own.client_held own.client_name own.client_faults
    → CreatesOne run before after session own
creates_named run before after session own venue client venue_is client_is named left fresh unnamed
    went texts to_venue to_client = record {
      went = went;
      texts = subst (λ (v : List ℕ). after.texts
          ≡ option_map (with_two v [] (client_name run.out session) []) before.texts) venue_is
          (subst (λ (c : List ℕ). after.texts ≡ option_map (with_two venue [] c []) before.texts)
          client_is texts);
      left = left;
      input_fresh = fresh;
      unnamed = unnamed;
      named = named ∙ venue_is;
      venue = subst (λ (n : List ℕ). IsNewSink before.texts n own.venue_held own.venue_name
          own.venue_faults) venue_is to_venue;
      client = subst (λ (n : List ℕ). IsNewSink before.texts n own.client_held own.client_name
          own.client_faults) client_is to_client;
    }

-- an output that wasn't made behind others, which were closed then
unmade_among : (before now after last : PortsValue) (venue client : List ℕ) (s : Status)
    → Went before now → Went after last → IsUnmade now after venue client s
    → IsUnmade before last venue client s
unmade_among before now after last venue client status.WriteFault earlier later (inl rose) =
    inl (omega (arith, earlier.written venue, later.written venue, rose))
unmade_among before now after last venue client status.WriteFault earlier later (inr rose) =
    inr (omega (arith, earlier.written client, later.written client, rose))
unmade_among before now after last venue client status.Memory earlier later rose = tt
unmade_among before now after last venue client status.ReadFault earlier later rose = rose
unmade_among before now after last venue client status.Done earlier later rose = rose
unmade_among before now after last venue client status.Usage earlier later rose = rose
unmade_among before now after last venue client (status.Limits why) earlier later rose = rose
unmade_among before now after last venue client status.CutShort earlier later rose = rose
unmade_among before now after last venue client status.Unlawful earlier later rose = rose

pub unmade_named : (run : RunWords) (before now after last : PortsValue) (session : ℕ) (s : Status)
    (venue client : List ℕ) → session < length run.sessions → venue ≡ venue_name run.out session
    → client ≡ client_name run.out session → Went before now → Went after last
    → IsUnmade now after venue client s → LeavesEmpty run session before.texts last.texts
    → HasUnmade run before last s
unmade_named run before now after last session s venue client below venue_is client_is earlier later
    unmade left = (
      session,
      below,
      subst (λ (v : List ℕ). IsUnmade before last v (client_name run.out session) s) venue_is
          (subst (λ (c : List ℕ). IsUnmade before last venue c s) client_is
          (unmade_among before now after last venue client s earlier later unmade)),
      left,
    )

-- a session's name is that of its output to the venue
pub named_by_venue : (run : RunWords) (names : List Outputs) (session : ℕ) (own : Outputs)
    → run.sessions ≡ map (λ (o : Outputs). string_bytes o.venue) names
    → slice_get names session ≡ Some own → session_name run session ≡ string_bytes own.venue
named_by_venue run names session own are at =
    ap (λ (l : List (List ℕ)). get_or l session []) are
    ∙ get_or_from_slice_get (map (λ (o : Outputs). string_bytes o.venue) names) session
    (string_bytes own.venue) [] (map_at (λ (o : Outputs). string_bytes o.venue) names session own at)

-- what is left of the inputs, with one more
pub lefts_more : {A B : Type 0} (left : A → B) (all : List A) (one : A) (texts : List B)
    (session : ℕ) → map left all ≡ take session texts
    → slice_get texts session ≡ Some (left one)
    → map left (all ++ one ∷ []) ≡ take (session + 1) texts
lefts_more {A} {B} left all one texts session so_far at =
    map-append left all (one ∷ []) ∙ ap (λ (l : List B). l ++ left one ∷ []) so_far
    ∙ sym (take_one texts session (left one) at)
