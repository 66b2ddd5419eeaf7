-- A load whose sessions ran and were closed: what it did.
use Rattle.std.proofs.Common.{◌≡◌, ℕ, ◌*◌, ◌≤◌, ◌<◌, List, [], ◌∷◌, length, refl, sym, ap, subst}
use Rattle.std.proofs.Common.{◌∙◌, inl, inr, Bool, false, arith, suc}
use Rattle.std.proofs.lemmas.Option.{slice_get_within}
use Rattle.std.specs.Prelude.{Option, Some, None, slice_get, ◌⊎◌}
use Rattle.std.specs.List.{list_any}
use Rattle.fix_fields.specs.Frames.{FrameValue}
use Rattle.fix_fields.specs.Found.{Splits}
use Rattle.fix_fields.specs.declared.frame.Found.TheVariants as found
use Rattle.gate_ports.specs.Faults.{Rose}
use Rattle.gate_ports.specs.Names.{Texts}
use Rattle.limit_table.specs.declared.limits.Limits.{Limits}
use Rattle.make_load.specs.Loads.{session_text}
use Rattle.make_load.specs.declared.summary.Asked.{Asked}
use Rattle.risk_journal.specs.declared.acts.Act.{Act}
use Rattle.risk_journal.specs.declared.acts.End.{End}
use Rattle.risk_journal.specs.declared.acts.End.TheVariants as ending
use Rattle.screen_kit.specs.Screens.{ScreenValue}
use Rattle.session_engine.specs.Follows.{FollowsSource}
use Rattle.session_engine.specs.Session.{armed_for}
use Rattle.gate_program.specs.declared.told.Told.TheVariants as told
use Rattle.gate_files.specs.CommandOf.{IsAsked}
use Rattle.gate_program.specs.Finish.{HasEnded}
use Rattle.gate_program.specs.Loads.{HasLoadLimits, HasMade, LoadWent, counts_of, input_of}
use Rattle.gate_program.specs.Loads.{load_run}
use Rattle.gate_files.specs.Objects.{ObjectsValue, HasCreated}
use Rattle.gate_program.specs.Objects.{HasDone}
use Rattle.gate_program.specs.Run.{EndHolds}
use Rattle.gate_files.specs.Standing.{is_cut_short, is_memory, is_read_fault}
use Rattle.gate_program.specs.Run.{set_of}
use Rattle.gate_program.specs.Telling.{told_of}
use Rattle.gate_program.specs.WholeInputs.{IsWholeInput}
use Rattle.gate_program.proofs.Histories.{is_history, AdmissionLaws}
use Rattle.gate_files.proofs.Lists.{there_is}
use Rattle.gate_program.proofs.Ran.{silent, shown, told_bytes, session_holds, keeps_others, goes_on}
use Rattle.gate_program.proofs.Ran.{journal_from}
use Rattle.gate_program.proofs.Ways.{memory_or_run}
use Rattle.gate_program.proofs.WholeInputs.{whole_ends}

-- what is known of the files of loads
pub record FilesLaw : Type 0 where
  pub frames : (number orders session : ℕ) → orders ≤ 10000 → session < 100
      → (frames : List FrameValue)
      × Splits (session_text number orders session) 0 frames found.End
  pub size : (number orders session : ℕ) → orders ≤ 10000 → session < 100
      → length (session_text number orders session) ≤ 2000 * orders

-- each is a whole input
pub input_is_whole : FilesLaw → (asked : Asked) → IsAsked asked → (session : ℕ) → session < 100
    → IsWholeInput (input_of asked session)
input_is_whole law asked is session below =
    let split = law.frames asked.number asked.orders session is.most_orders below in
    record {
      few = omega (
        arith,
        law.size asked.number asked.orders session is.most_orders below,
        is.most_orders,
      );
      frames = split.0;
      split = split.1;
    }

-- a test that each end fails fails for all
none_is : (p : End → Bool) (ends : List End)
    → ((place : ℕ) (end : End) → slice_get ends place ≡ Some end → p end ≡ false)
    → list_any p ends ≡ false
none_is p [] each = refl
none_is p (end ∷ ends) each =
    rw (each 0 end refl) (none_is p ends (λ place other is. each (suc place) other is))

-- a session whose input has no fault doesn't end by one
no_fault_ends : (limits : Limits) (screens : List ScreenValue) (before after : ObjectsValue)
    (acts : List Act) (end : End) → before.input_faults ≡ 0 → after.input_faults ≡ 0
    → HasDone limits screens before after acts end → is_read_fault end ≡ false
no_fault_ends limits screens before after acts ending.ReadFault none still done =
    absurd (no_rise _ _ none still (done.read refl)) where
      no_rise : (a b : ℕ) → a ≡ 0 → b ≡ 0 → Rose a b → ⊥
      no_rise a b is_a is_b rose = absurd (omega (arith, is_a, is_b, rose))
no_fault_ends limits screens before after acts ending.WriteFault none still done = refl
no_fault_ends limits screens before after acts ending.Memory none still done = refl
no_fault_ends limits screens before after acts ending.Whole none still done = refl
no_fault_ends limits screens before after acts (ending.Cut place) none still done = refl
no_fault_ends limits screens before after acts (ending.Broken place) none still done = refl
no_fault_ends limits screens before after acts (ending.TooLong place) none still done = refl

-- nor by a frame that is cut, broken or too long, where it is whole
cut_is_whole : (limits : Limits) (screens : List ScreenValue) (bytes : List ℕ) (acts : List Act)
    (end : End) (left held_venue venue held_client client : Option (List ℕ)) → left ≡ Some bytes
    → IsWholeInput bytes
    → FollowsSource limits screens left acts end held_venue venue held_client client
    → end ≡ ending.Whole
cut_is_whole limits screens bytes acts end None hv va hc ca is whole follows = absurd cc
cut_is_whole limits screens bytes acts end (Some own) hv va hc ca is whole
    (to_venue, to_client, venue, client, did) =
    let same : own ≡ bytes = cc in
    whole_ends own did.frames did.next end (subst IsWholeInput (sym same) whole) did.split did.end_is

no_cut_ends : (limits : Limits) (screens : List ScreenValue) (before after : ObjectsValue)
    (bytes : List ℕ) (acts : List Act) (end : End) → before.left ≡ Some bytes → IsWholeInput bytes
    → HasDone limits screens before after acts end → is_cut_short end ≡ false
no_cut_ends limits screens before after bytes acts ending.ReadFault is whole done = refl
no_cut_ends limits screens before after bytes acts ending.WriteFault is whole done = refl
no_cut_ends limits screens before after bytes acts ending.Memory is whole done = refl
no_cut_ends limits screens before after bytes acts ending.Whole is whole done = refl
no_cut_ends limits screens before after bytes acts (ending.Cut place) is whole done =
    let same = cut_is_whole limits _ bytes acts (ending.Cut place) before.left _ _ _ _ is whole
    (done.follows.input tt) in absurd cc
no_cut_ends limits screens before after bytes acts (ending.Broken place) is whole done =
    let same = cut_is_whole limits _ bytes acts (ending.Broken place) before.left _ _ _ _ is whole
    (done.follows.input tt) in absurd cc
no_cut_ends limits screens before after bytes acts (ending.TooLong place) is whole done =
    let same = cut_is_whole limits _ bytes acts (ending.TooLong place) before.left _ _ _ _ is whole
    (done.follows.input tt) in absurd cc

module _ {S : Type 0} (faults : S → ℕ) (none : (s : S) → faults s ≡ 0) (asked : Asked)
    (is_asked : IsAsked asked) (law : FilesLaw) (limits : Limits) (sets : List (List ScreenValue))
    (no_set : (session : ℕ) → session < asked.sessions → set_of sets session ≡ [])
    (t0 : Option Texts) (r0 w0 : List ℕ → ℕ)
    (t1 : Option Texts) (r1 w1 : List ℕ → ℕ) (t2 : Option Texts) (r2 w2 : List ℕ → ℕ)
    (objects : List ObjectsValue) (text : List ℕ) (status : ℕ)
    (created : HasCreated (load_run asked) (silent t0 r0 w0) (silent t1 r1 w1) objects)
    (many : length objects ≡ asked.sessions)
    (lefts : (session : ℕ) (own : ObjectsValue) → slice_get objects session ≡ Some own
    → own.left ≡ Some (input_of asked session))
    (ended : HasEnded faults (told_of (told.Summary asked (counts_of asked)) limits) limits sets
    (load_run asked) (silent t1 r1 w1) (silent t2 r2 w2) objects text status) where
  -- the objects of a session of this number, before and after
  record SessionOf (session : ℕ) (acts : List Act) (end : End) : Type 0 where
    own : ObjectsValue
    now : ObjectsValue
    is_own : slice_get objects session ≡ Some own
    is_now : slice_get ended.objects_after session ≡ Some now
    done : HasDone limits (set_of sets session) own now acts end

  session_of : (session : ℕ) (acts : List Act) (end : End)
      → slice_get ended.acts session ≡ Some acts → slice_get ended.ends session ≡ Some end
      → SessionOf session acts end
  session_of session acts end is_acts is_end =
      let inside = slice_get_within ended.ends session end is_end in
      let own = there_is objects session (omega (arith, inside, ended.done.end_count)) in
      let now = there_is ended.objects_after session
      (omega (arith, inside, ended.done.end_count, ended.done.object_count)) in
      record {
        own = own.0;
        now = now.0;
        is_own = own.1;
        is_now = now.1;
        done = ended.done.each session own.0 now.0 acts end own.1 now.1 is_acts is_end;
      }

  acts_of : (session : ℕ) (end : End) → slice_get ended.ends session ≡ Some end
      → (acts : List Act) × (slice_get ended.acts session ≡ Some acts)
  acts_of session end is_end =
      there_is ended.acts session (omega (
        arith,
        slice_get_within ended.ends session end is_end,
        ended.done.end_count,
        ended.done.act_count,
      ))

  inside : (session : ℕ) (end : End) → slice_get ended.ends session ≡ Some end
      → session < asked.sessions
  inside session end is_end =
      omega (arith, slice_get_within ended.ends session end is_end, ended.done.end_count, many)

  no_read : (session : ℕ) (end : End) → slice_get ended.ends session ≡ Some end
      → is_read_fault end ≡ false
  no_read session end is_end =
      let (acts, is_acts) = acts_of session end is_end in
      let one = session_of session acts end is_acts is_end in
      let (input, count) = ended.counts session one.now one.is_now in
      no_fault_ends limits _ one.own one.now acts end
      (created.each session one.own one.is_own).input_fresh (count ∙ none input) one.done

  no_cut : (session : ℕ) (end : End) → slice_get ended.ends session ≡ Some end
      → is_cut_short end ≡ false
  no_cut session end is_end =
      let (acts, is_acts) = acts_of session end is_end in
      let one = session_of session acts end is_acts is_end in
      no_cut_ends limits _ one.own one.now (input_of asked session) acts end
      (lefts session one.own one.is_own)
      (input_is_whole law asked is_asked session
      (omega (arith, inside session end is_end, is_asked.most))) one.done

  each_holds : (session : ℕ) (acts : List Act) (end : End)
      → slice_get ended.acts session ≡ Some acts → slice_get ended.ends session ≡ Some end
      → EndHolds limits (armed_for limits []) (shown t0 r0 w0 []) (shown t2 r2 w2 text)
      (load_run asked) session (input_of asked session) acts end
  each_holds session acts end is_acts is_end =
      let one = session_of session acts end is_acts is_end in
      let bytes : told_bytes one.own.left ≡ input_of asked session =
      ap told_bytes (lefts session one.own one.is_own) in
      subst (λ (b : List ℕ). EndHolds limits (armed_for limits []) (shown t0 r0 w0 [])
      (shown t2 r2 w2 text) (load_run asked) session b acts end) bytes
      (subst (λ (set : List ScreenValue). EndHolds limits (armed_for limits set)
      (shown t0 r0 w0 []) (shown t2 r2 w2 text) (load_run asked) session
      (told_bytes one.own.left) acts end) (no_set session (inside session end is_end))
      (session_holds faults (told_of (told.Summary asked (counts_of asked)) limits) (load_run asked)
      limits sets t0 r0 w0 t1 r1 w1 t2 r2 w2 objects text status created ended session one.own
      one.now acts end one.is_own one.is_now one.done))

  has_made : HasLoadLimits asked.sessions limits → AdmissionLaws → list_any is_memory ended.ends ≡ false
      → length (load_run asked).sessions ≡ asked.sessions
      → HasMade asked (shown t0 r0 w0 []) (shown t2 r2 w2 text) status
  has_made limits_are laws remembered count = record {
    limits = limits;
    acts = ended.acts;
    ends = ended.ends;
    lines = ended.lines;
    refused = ended.finished.refused;
    limits_are = limits_are;
    remembered = remembered;
    no_read_fault = none_is is_read_fault ended.ends no_read;
    whole = none_is is_cut_short ended.ends no_cut;
    act_count = ended.done.act_count ∙ many;
    end_count = ended.done.end_count ∙ many;
    each = each_holds;
    history = is_history limits ended.acts ended.lines ended.legal laws;
    journal = journal_from (load_run asked) t0 t1 t2 r0 w0 r1 w1 r2 w2 text ended.acts ended.lines
        ended.finished.refused (length objects) created.went.written created.texts
        ended.finished.journal;
    others = keeps_others (load_run asked) (length objects) t0 t1 t2 (many ∙ sym count)
        created.texts ended.finished.written.others;
    tells = goes_on (load_run asked) (length objects) t0 t1 t2 created.texts
        ended.finished.written.goes_on;
    told = inl (
      ended.finished.answer.stands,
      ended.finished.answer.told
          ∙ ap (told_of (told.Summary asked (counts_of asked)) limits ended.acts ended.ends
          ended.lines) ended.finished.answer.stands,
    );
  }

  -- a load whose sessions ended went its way
  pub load_went : HasLoadLimits asked.sessions limits → AdmissionLaws
      → length (load_run asked).sessions ≡ asked.sessions
      → (status ≡ 8) ⊎ LoadWent asked (shown t0 r0 w0 []) (shown t2 r2 w2 text) status
  load_went limits_are laws count =
      memory_or_run ended.ends ended.finished.refused status (list_any is_memory ended.ends) refl
      ended.finished.answer.stands (λ remembered. inr (has_made limits_are laws remembered count))
