-- Sessions that were opened, ran and were closed: what they came to in the folder's texts.
use Rattle.std.proofs.Common.{◌≡◌, ℕ, List, [], ◌∷◌, ◌++◌, length, map, refl, sym, ap, subst}
use Rattle.std.proofs.Common.{◌∙◌, suc, ◌≤◌}
use Rattle.std.proofs.Common.{inl, inr, Bool, true, false, arith}
use Rattle.std.proofs.lemmas.List.{length-map}
use Rattle.std.proofs.lemmas.Option.{get_or_from_slice_get, slice_get_within}
use Rattle.std.specs.Prelude.{Option, Some, None, IfSome, IsSome, slice_get, ◌⊎◌}
use Rattle.std.specs.List.{list_any}
use Rattle.std.specs.Io.KnownBytes.{Appends, Consumes}
use Rattle.gate_ports.specs.Faults.{Rose}
use Rattle.gate_ports.specs.Names.{Texts}
use Rattle.risk_board.specs.declared.hand.Line.{Line}
use Rattle.risk_journal.specs.declared.acts.Act.{Act}
use Rattle.risk_journal.specs.declared.acts.End.{End}
use Rattle.risk_journal.specs.declared.acts.End.TheVariants as ending
use Rattle.risk_journal.specs.JournalText.{journal_text}
use Rattle.frame_run.specs.Ends.{IsByInput}
use Rattle.gate_files.specs.Words.{RunWords, venue_name, client_name, journal_name, is_among}
use Rattle.gate_files.specs.Words.{output_names}
use Rattle.gate_files.specs.Ports.{PortsValue, ReadRose, WriteRose, OutputRose, session_name}
use Rattle.gate_files.specs.Standing.{is_memory}
use Rattle.gate_files.specs.Objects.{ObjectsValue, AreNew, AreFresh, ChangesOutputs}
use Rattle.gate_files.specs.Objects.{HasOpened, HasCreated, HoldsOutputs}
use Rattle.session_tasks.specs.Rules.{InputRule, EarlyRule, IsByCauses, EndsAs, EndsWith}
use Rattle.session_tasks.specs.Did.{FollowsLeft, StopsLeft, HasDone}
use Rattle.session_tasks.specs.Holding.{EndHolds, FollowsText, StopsText}
use Rattle.session_tasks.specs.Kept.{HasEnded, HasJournal}
use Rattle.session_tasks.specs.Ran.{AreInputs, HaveRan}
use Rattle.gate_files.proofs.Folder.{created}
use Rattle.gate_files.proofs.Chains.{rose_from, rose_is_some}
use Rattle.gate_files.proofs.Early.{holds_appended, front_behind}
use Rattle.gate_files.proofs.Lists.{mapped_at, there_is}
use Rattle.gate_files.proofs.OutputNames.{apart_from_all}

-- a folder beside a standard output that got this text
abbrev pub shown : Option Texts → (List ℕ → ℕ) → (List ℕ → ℕ) → List ℕ → PortsValue
shown texts reads writes text = record {
  texts = texts;
  read_faults = reads;
  write_faults = writes;
  held = Some text;
  out_faults = 0;
}

-- a folder beside a standard output that tells nothing
abbrev pub silent : Option Texts → (List ℕ → ℕ) → (List ℕ → ℕ) → PortsValue
silent texts reads writes = record {
  texts = texts;
  read_faults = reads;
  write_faults = writes;
  held = None;
  out_faults = 0;
}

-- the bytes that are left, and none where that isn't told
abbrev pub told_bytes : Option (List ℕ) → List ℕ
told_bytes None = []
told_bytes (Some bytes) = bytes

-- the last act is there where memory wasn't wanting
ends_with : (acts : List Act) (end : End) → EndsAs acts end → (end ≡ ending.Memory → ⊥)
    → EndsWith acts end
ends_with acts end (inl last) remembers = last
ends_with acts end (inr (none, memory)) remembers = absurd (remembers memory)

module _ (Input : InputRule) (Early : EarlyRule) (law : IsByCauses Early) where
  -- by each end
  end_holds : (before after : PortsValue)
      (run : RunWords) (session : ℕ) (bytes : List ℕ) (acts : List Act) (end : End)
      → (end ≡ ending.ReadFault → ReadRose before after (session_name run session))
      → (end ≡ ending.WriteFault → OutputRose before after run session)
      → EndsAs acts end
      → (IsByInput end → FollowsText Input after run session bytes acts end)
      → (IsByInput end ⊎ StopsText Early before after run session bytes acts end)
      → EndHolds Input Early before after run session bytes acts end
  end_holds before after run n bytes acts ending.ReadFault read write ends follows (inl by_input) =
      absurd by_input
  end_holds before after run n bytes acts ending.ReadFault read write ends follows (inr stops) =
      (read refl, ends_with acts ending.ReadFault ends (λ is. cc), stops)
  end_holds before after run n bytes acts ending.WriteFault read write ends follows
      (inl by_input) =
      absurd by_input
  end_holds before after run n bytes acts ending.WriteFault read write ends follows (inr stops) =
      (write refl, ends_with acts ending.WriteFault ends (λ is. cc), stops)
  end_holds before after run n bytes acts ending.Memory read write ends follows early = tt
  end_holds before after run n bytes acts ending.Whole read write ends follows early = follows tt
  end_holds before after run n bytes acts (ending.Cut place) read write ends follows early =
      follows tt
  end_holds before after run n bytes acts (ending.Broken place) read write ends follows early =
      follows tt
  end_holds before after run n bytes acts (ending.TooLong place) read write ends follows early =
      follows tt

  -- the streams that a told session wrote are the texts of its outputs
  follows_text : (run : RunWords) (session count : ℕ) (t0 t1 t2 : Option Texts)
      (own now : ObjectsValue) (acts : List Act) (end : End)
      → ChangesOutputs run.out count t0 t1 → AreFresh t0 own
      → (t1 ≡ None → t2 ≡ None)
      → IfSome t1 (λ _. IfSome t2 (λ new. HoldsOutputs run new session now))
      → FollowsLeft Input own now acts end
      → IfSome t2 (λ texts. (venue : List ℕ) × (client : List ℕ)
      × (texts (venue_name run.out session) ≡ Some venue)
      × (texts (client_name run.out session) ≡ Some client)
      × Input (told_bytes own.left) acts end venue client)
  follows_text run session count None t1 None own now acts end changes new tells holds follows = tt
  follows_text run session count None t1 (Some texts) own now acts end changes new tells holds
      follows =
      let none : Some texts ≡ None = tells changes in absurd cc
  follows_text run session count (Some old) t1 None own now acts end changes new tells holds
      follows = tt
  follows_text run session count (Some old) None (Some texts) own now acts end (mid, there, same)
      new tells holds follows = absurd cc
  follows_text run session count (Some old) (Some middle) (Some texts) own now acts end changes new
      tells holds follows = by_left own.left new.left follows where
        by_left : (left : Option (List ℕ)) → IsSome left
            → IfSome left (λ bytes. (to_venue : List ℕ) × (to_client : List ℕ)
            × Appends own.venue_held now.venue_held to_venue
            × Appends own.client_held now.client_held to_client
            × Input bytes acts end to_venue to_client)
            → (venue : List ℕ) × (client : List ℕ)
            × (texts (venue_name run.out session) ≡ Some venue)
            × (texts (client_name run.out session) ≡ Some client)
            × Input (told_bytes left) acts end venue client
        by_left None some source = absurd cc
        by_left (Some bytes) some (to_venue, to_client, venue_gets, client_gets, input) = (
          to_venue,
          to_client,
          holds.venue ∙ ap (λ s. Some s) (holds_appended own.venue_held now.venue_held to_venue
              holds.to_venue new.venue_empty venue_gets holds.venue_told),
          holds.client ∙ ap (λ s. Some s) (holds_appended own.client_held now.client_held to_client
              holds.to_client new.client_empty client_gets holds.client_told),
          input,
        )

  -- what is known of it holds from an earlier folder on, whose write counts were no higher
  pub stops_from : (before earlier after : PortsValue)
      (run : RunWords) (session : ℕ) (bytes : List ℕ) (acts : List Act) (end : End)
      → ((name : List ℕ) → WriteRose before after name → WriteRose earlier after name)
      → StopsText Early before after run session bytes acts end
      → StopsText Early earlier after run session bytes acts end
  stops_from before earlier after run session bytes acts end rose stops = by after.texts stops where
    by : (told : Option Texts)
        → IfSome told (λ texts. (venue : List ℕ) × (client : List ℕ)
        × (texts (venue_name run.out session) ≡ Some venue)
        × (texts (client_name run.out session) ≡ Some client)
        × (fetched : List ℕ) × (rest : List ℕ) × (bytes ≡ fetched ++ rest)
        × Early fetched acts end venue client
        (WriteRose before after (venue_name run.out session))
        (WriteRose before after (client_name run.out session)))
        → IfSome told (λ texts. (venue : List ℕ) × (client : List ℕ)
        × (texts (venue_name run.out session) ≡ Some venue)
        × (texts (client_name run.out session) ≡ Some client)
        × (fetched : List ℕ) × (rest : List ℕ) × (bytes ≡ fetched ++ rest)
        × Early fetched acts end venue client
        (WriteRose earlier after (venue_name run.out session))
        (WriteRose earlier after (client_name run.out session)))
    by None stops = tt
    by (Some texts) (venue, client, at_venue, at_client, fetched, rest, front, stops) = (
      venue,
      client,
      at_venue,
      at_client,
      fetched,
      rest,
      front,
      law fetched acts end venue client _ _ _ _ (rose (venue_name run.out session))
          (rose (client_name run.out session)) stops,
    )

  -- what a told session wrote that a fault ended are the texts of its outputs
  stops_text : (run : RunWords) (session count : ℕ)
      (t0 t1 t2 : Option Texts) (own now : ObjectsValue) (acts : List Act) (end : End)
      (V C : Type 0) → ChangesOutputs run.out count t0 t1 → AreFresh t0 own
      → (t1 ≡ None → t2 ≡ None)
      → IfSome t1 (λ _. IfSome t2 (λ new. HoldsOutputs run new session now))
      → (Rose own.venue_faults now.venue_faults → V)
      → (Rose own.client_faults now.client_faults → C)
      → StopsLeft Early own now acts end
      → IfSome t2 (λ texts. (venue : List ℕ) × (client : List ℕ)
      × (texts (venue_name run.out session) ≡ Some venue)
      × (texts (client_name run.out session) ≡ Some client)
      × (fetched : List ℕ) × (rest : List ℕ) × (told_bytes own.left ≡ fetched ++ rest)
      × Early fetched acts end venue client V C)
  stops_text run session count None t1 None own now acts end V C changes new tells holds venue
      client stops = tt
  stops_text run session count None t1 (Some texts) own now acts end V C changes new tells holds
      venue client stops =
      let none : Some texts ≡ None = tells changes in absurd cc
  stops_text run session count (Some old) t1 None own now acts end V C changes new tells holds
      venue client stops = tt
  stops_text run session count (Some old) None (Some texts) own now acts end V C (mid, there, same)
      new tells holds venue client stops = absurd cc
  stops_text run session count (Some old) (Some middle) (Some texts) own now acts end V C changes
      new tells holds venue client stops =
      let front = left_front own.left now.left stops.fetched new.left stops.taken in (
        stops.to_venue,
        stops.to_client,
        holds.venue ∙ ap (λ s. Some s) (holds_appended own.venue_held now.venue_held
            stops.to_venue holds.to_venue new.venue_empty stops.venue_got holds.venue_told),
        holds.client ∙ ap (λ s. Some s) (holds_appended own.client_held now.client_held
            stops.to_client holds.to_client new.client_empty stops.client_got holds.client_told),
        stops.fetched,
        front.0,
        front.1,
        law stops.fetched acts end stops.to_venue stops.to_client
            (Rose own.venue_faults now.venue_faults) (Rose own.client_faults now.client_faults) V C
            venue client stops.stops,
      )
    where
      -- what was fetched are the first bytes
      left_front : (left left_after : Option (List ℕ)) (fetched : List ℕ) → IsSome left
          → Consumes left left_after fetched
          → (rest : List ℕ) × (told_bytes left ≡ fetched ++ rest)
      left_front None left_after fetched some taken = absurd cc
      left_front (Some bytes) None fetched some taken = absurd taken
      left_front (Some bytes) (Some rest) fetched some taken = (rest, taken)

none_is_there : (text : Option (List ℕ)) → None ≡ text → IsSome text → ⊥
none_is_there None is there = cc
none_is_there (Some text) is there = cc

-- what was left of a new input is its name's text
text_is : (texts : Texts) (name : List ℕ) (left : Option (List ℕ)) → IsSome (texts name)
    → left ≡ texts name → texts name ≡ Some (told_bytes left)
text_is texts name None there is = absurd (none_is_there (texts name) is there)
text_is texts name (Some bytes) there is = sym is

inputs_match : (texts : Texts) (names : List (List ℕ)) (objects : List ObjectsValue)
    → length names ≡ length objects
    → ((session : ℕ) (name : List ℕ) (own : ObjectsValue) → slice_get names session ≡ Some name
    → slice_get objects session ≡ Some own → texts name ≡ Some (told_bytes own.left))
    → map texts names ≡ map (λ bytes. Some bytes) (map (λ (own : ObjectsValue). told_bytes own.left)
    objects)
inputs_match texts [] [] same each = refl
inputs_match texts [] (own ∷ objects) same each = absurd (omega arith)
inputs_match texts (name ∷ names) [] same each = absurd (omega arith)
inputs_match texts (name ∷ names) (own ∷ objects) same each =
    ap (λ (t : Option (List ℕ)). t ∷ map texts names) (each 0 name own refl refl)
    ∙ ap (λ (l : List (Option (List ℕ))). Some (told_bytes own.left) ∷ l)
    (inputs_match texts names objects (omega arith) (λ session n o is_n is_o. each (suc session) n o
    is_n is_o))

are_inputs : (run : RunWords) (told : Option Texts) (objects : List ObjectsValue)
    → length run.sessions ≡ length objects
    → ((session : ℕ) (own : ObjectsValue) → slice_get objects session ≡ Some own
    → AreNew run told session own)
    → AreInputs told run.sessions (map (λ (own : ObjectsValue). told_bytes own.left) objects)
are_inputs run None objects same each = tt
are_inputs run (Some texts) objects same each =
    inputs_match texts run.sessions objects same (λ session name own is_name is_own.
    let new = each session own is_own in
    let named : session_name run session ≡ name =
    get_or_from_slice_get run.sessions session name [] is_name in
    ap texts (sym named)
    ∙ text_is texts (session_name run session) own.left new.opened.0 new.opened.1)

pub keeps_others : (run : RunWords) (count : ℕ) (t0 t1 t2 : Option Texts)
    → count ≡ length run.sessions
    → ChangesOutputs run.out count t0 t1
    → IfSome t1 (λ mid. IfSome t2 (λ new. (name : List ℕ)
    → is_among name (output_names run.out (length run.sessions)) ≡ false → new name ≡ mid name))
    → IfSome t0 (λ old. IfSome t2 (λ new. (name : List ℕ)
    → is_among name (output_names run.out (length run.sessions)) ≡ false → new name ≡ old name))
keeps_others run count None t1 t2 many changes others = tt
keeps_others run count (Some old) None t2 many (mid, there, same) others = absurd cc
keeps_others run count (Some old) (Some middle) None many changes others = tt
keeps_others run count (Some old) (Some middle) (Some new) many (mid, there, same) others =
    λ name among. let mid_is : middle ≡ mid = cc in
    others name among ∙ ap (λ (t : Texts). t name) mid_is
    ∙ same name (apart_from_all run.out name count
    (subst (λ (n : ℕ). is_among name (output_names run.out n) ≡ false) (sym many) among)).0

-- a folder that told its texts tells them still
pub goes_on : (run : RunWords) (count : ℕ) (t0 t1 t2 : Option Texts)
    → ChangesOutputs run.out count t0 t1 → (IsSome t1 → IsSome t2) → IsSome t0 → IsSome t2
goes_on run count None t1 t2 changes later some = absurd cc
goes_on run count (Some old) t1 t2 (mid, there, same) later some =
    later (subst (λ (t : Option Texts). IsSome t) (sym there) refl)

-- the journal's own write count rose from the start
pub journal_from : (run : RunWords) (t0 t1 t2 : Option Texts) (r0 w0 r1 w1 r2 w2 : List ℕ → ℕ)
    (text : List ℕ) (acts : List (List Act)) (lines : List (List Line)) (refused : Bool)
    (count : ℕ) → ((name : List ℕ) → w0 name ≤ w1 name) → ChangesOutputs run.out count t0 t1
    → HasJournal (silent t1 r1 w1) (silent t2 r2 w2) run acts lines refused
    → HasJournal (shown t0 r0 w0 []) (shown t2 r2 w2 text) run acts lines refused
journal_from run t0 t1 t2 r0 w0 r1 w1 r2 w2 text acts lines false count later changes journal =
    journal
journal_from run t0 t1 t2 r0 w0 r1 w1 r2 w2 text acts lines true count later changes
    (rose, front) = (
      rose_from _ _ _ (later (journal_name run.out)) rose,
      front_behind run.out count t0 t1 t2 (journal_text acts lines) changes front,
    )

either_rose : (v c V C : Type 0) → v ⊎ c → (v → V) → (c → C) → V ⊎ C
either_rose v c V C (inl rose) venue client = inl (venue rose)
either_rose v c V C (inr rose) venue client = inr (client rose)

module _ {S : Type 0} (faults : S → ℕ) (Input : ℕ → InputRule) (Early : ℕ → EarlyRule)
    (law : (session : ℕ) → IsByCauses (Early session)) (run : RunWords) (t0 : Option Texts)
    (r0 w0 : List ℕ → ℕ) (t1 : Option Texts) (r1 w1 : List ℕ → ℕ) (t2 : Option Texts)
    (r2 w2 : List ℕ → ℕ) (objects : List ObjectsValue) (text : List ℕ)
    (acts : List (List Act)) (ends : List End) (lines : List (List Line)) (refused : Bool)
    (ended : HasEnded faults Input Early run (silent t1 r1 w1) (silent t2 r2 w2) objects acts ends
    lines refused) where
  -- what is known of a session by its end
  pub session_holds : HasCreated run (silent t0 r0 w0) (silent t1 r1 w1) objects
      → (session : ℕ) (own now : ObjectsValue) (did : List Act) (end : End)
      → slice_get objects session ≡ Some own → slice_get ended.objects_after session ≡ Some now
      → HasDone (Input session) (Early session) own now did end
      → EndHolds (Input session) (Early session) (shown t0 r0 w0 []) (shown t2 r2 w2 text) run
      session (told_bytes own.left) did end
  session_holds fresh session own now did end is_own is_now done =
      let new = fresh.each session own is_own in
      let causes = ended.kept.causes session now is_now in
      end_holds (Input session) (Early session) (law session) (shown t0 r0 w0 [])
      (shown t2 r2 w2 text) run session (told_bytes own.left) did end
      (λ is. rose_from _ _ _ (fresh.went.read (session_name run session))
      (causes.input (rose_is_some _ _ new.input_fresh (done.read is))))
      (λ is. either_rose _ _ _ _ (done.write is) venue_rose client_rose)
      done.ends
      (λ by_input. follows_text (Input session) (Early session) (law session) run session
      (length objects) t0 t1 t2 own now did end fresh.texts
      new ended.kept.written.tells (holds_one t1 t2 ended.kept.written.holds)
      (done.input by_input))
      (early done.early) where
        holds_one : (a b : Option Texts)
            → IfSome a (λ old. IfSome b (λ new. (n : ℕ) (o : ObjectsValue)
            → slice_get ended.objects_after n ≡ Some o → HoldsOutputs run new n o))
            → IfSome a (λ _. IfSome b (λ new. HoldsOutputs run new session now))
        holds_one None b holds = tt
        holds_one (Some x) None holds = tt
        holds_one (Some x) (Some y) holds = holds session now is_now

        venue_rose : Rose own.venue_faults now.venue_faults
            → Rose (w0 (venue_name run.out session)) (w2 (venue_name run.out session))
        venue_rose rose = rose_from _ _ _ (fresh.went.written (venue_name run.out session))
            ((ended.kept.causes session now is_now).venue (rose_is_some _ _
            (fresh.each session own is_own).venue_fresh rose))

        client_rose : Rose own.client_faults now.client_faults
            → Rose (w0 (client_name run.out session)) (w2 (client_name run.out session))
        client_rose rose = rose_from _ _ _ (fresh.went.written (client_name run.out session))
            ((ended.kept.causes session now is_now).client (rose_is_some _ _
            (fresh.each session own is_own).client_fresh rose))

        early : (IsByInput end ⊎ StopsLeft (Early session) own now did end)
            → IsByInput end ⊎ StopsText (Early session) (shown t0 r0 w0 [])
            (shown t2 r2 w2 text) run session (told_bytes own.left) did end
        early (inl by_input) = inl by_input
        early (inr stops) = inr (stops_text (Input session) (Early session) (law session) run
            session (length objects) t0 t1 t2 own now did end
            (Rose (w0 (venue_name run.out session)) (w2 (venue_name run.out session)))
            (Rose (w0 (client_name run.out session)) (w2 (client_name run.out session)))
            fresh.texts (fresh.each session own is_own) ended.kept.written.tells
            (holds_one t1 t2 ended.kept.written.holds) venue_rose client_rose stops)

  -- what sessions that were opened did
  pub have_ran : HasOpened run (silent t0 r0 w0) (silent t1 r1 w1) objects
      → length objects ≡ length run.sessions → list_any is_memory ends ≡ false
      → HaveRan Input Early run (shown t0 r0 w0 []) (shown t2 r2 w2 text)
      (map (λ (own : ObjectsValue). told_bytes own.left) objects) acts ends lines refused
  have_ran opened many remembered = record {
    remembered = remembered;
    inputs_are = are_inputs run t0 objects (sym many) opened.each;
    input_count = length-map objects (λ (own : ObjectsValue). told_bytes own.left) ∙ many;
    act_count = ended.done.act_count ∙ many;
    end_count = ended.done.end_count ∙ many;
    each = λ session bytes did end is_bytes is_did is_end.
        let own = mapped_at (λ (o : ObjectsValue). told_bytes o.left) objects session bytes is_bytes
        in
        let now = there_is ended.objects_after session
        (omega (arith, slice_get_within objects session own.0 own.1, ended.done.object_count)) in
        subst (λ (b : List ℕ). EndHolds (Input session) (Early session)
        (shown t0 r0 w0 []) (shown t2 r2 w2 text) run session b did end) own.2
        (session_holds (created run _ _ objects opened) session own.0 now.0 did end own.1 now.1
        (ended.done.each session own.0 now.0 did end own.1 now.1 is_did is_end));
    journal = journal_from run t0 t1 t2 r0 w0 r1 w1 r2 w2 text acts lines refused
        (length objects) opened.went.written opened.texts ended.kept.journal;
    others = keeps_others run (length objects) t0 t1 t2 many opened.texts
        ended.kept.written.others;
    tells = goes_on run (length objects) t0 t1 t2 opened.texts ended.kept.written.goes_on;
  }
