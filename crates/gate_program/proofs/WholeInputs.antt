-- Whole inputs are done: each other way of a run has a cause that they, or the counts, rule out.
use Rattle.std.proofs.Common.{◌≡◌, ℕ, ◌≤◌, List, [], ◌∷◌, length, map, take, refl, sym, ap}
use Rattle.std.proofs.Common.{subst, ◌∙◌, arith, inl, inr, Bool, true, false, take_all}
use Rattle.std.proofs.Common.{zero, suc}
use Rattle.std.specs.Prelude.{◌⊎◌, Option, Some, None, IfSome, IsSome, nat_lt, slice_get}
use Rattle.std.specs.Prelude.{is_some}
use Rattle.std.specs.List.{list_any}
use Rattle.std.proofs.lemmas.Bool.Decides.{nat_tests}
use Rattle.std.proofs.lemmas.Option.{get_or_from_slice_get, slice_get_within}
use Rattle.fix_fields.specs.Frames.{FrameValue, IsFrameAt}
use Rattle.fix_fields.specs.Found.{Finds, Splits}
use Rattle.fix_fields.specs.declared.frame.Frame.{Frame}
use Rattle.fix_fields.specs.declared.frame.Found.{Found}
use Rattle.fix_fields.specs.declared.frame.Found.TheVariants as found
use Rattle.fix_fields.proofs.FrameLaws.{one_frame_at}
use Rattle.fix_fields.proofs.FoundLaws.{one_is_found}
use Rattle.gate_ports.specs.Names.{Texts}
use Rattle.limit_table.specs.Files.{IsFirstFault}
use Rattle.limit_table.specs.declared.fault.LimitFault.{LimitFault}
use Rattle.limit_table.specs.declared.limits.Limits.{Limits}
use Rattle.limit_table.proofs.OneAnswer.{not_both}
use Rattle.risk_board.specs.declared.hand.Line.{Line}
use Rattle.risk_journal.specs.declared.acts.Act.{Act}
use Rattle.risk_journal.specs.declared.acts.End.{End}
use Rattle.risk_journal.specs.declared.acts.End.TheVariants as ending
use Rattle.screen_kit.specs.Screens.{ScreenValue}
use Rattle.session_engine.specs.Session.{armed_for}
use Rattle.session_engine.specs.Follows.{EndsBy, input_most}
use Rattle.gate_files.specs.Words.{RunWords, Command}
use Rattle.gate_files.specs.Ports.{PortsValue, session_name}
use Rattle.gate_program.specs.Run.{EndHolds, FollowsText}
use Rattle.gate_files.specs.Standing.{is_memory}
use Rattle.gate_program.specs.Run.{set_of}
use Rattle.gate_files.specs.Standing.{is_write_fault, is_read_fault, is_cut_short, standing_of}
use Rattle.gate_files.specs.Ports.{OutputRose}
use Rattle.gate_program.specs.Commands.{CommandWent, GateRun}
use Rattle.gate_program.specs.Gate.{AreInputs, HasJournal, HasRun}
use Rattle.gate_files.specs.Stops.{IsRefused}
use Rattle.gate_program.specs.Gate.{RunWent}
use Rattle.gate_files.specs.Told.{Tells}
use Rattle.gate_program.specs.WholeInputs.{IsWholeInput, AreWholeTexts, HasNoFault}
use Rattle.gate_program.specs.WholeInputs.{HasWholeInputs}
use Rattle.gate_files.proofs.Lists.{map_at, mapped_at, there_is}
use Rattle.std.proofs.lemmas.Bool.{or_parts}

-- a frame that stands there is found there
frame_is_found : (bytes : List ℕ) (from : ℕ) (frame : FrameValue) (a b : ℕ)
    → IsFrameAt bytes from frame a b → (f : Frame) × Finds bytes from (found.Frame f)
frame_is_found bytes from frame a b at = (
  record {
    start = frame.place;
    body_from = a;
    body_to = b;
    end = frame.end;
    sound = is_some frame.fields;
  },
  (frame.fields, at, refl),
)

-- an end by what is found, where the end of the bytes is found there too
ends_at_end : (bytes : List ℕ) (from : ℕ) (next : Found) (end : End)
    → Finds bytes from found.End → Finds bytes from next → EndsBy false next end
    → end ≡ ending.Whole
ends_at_end bytes from next end at_end finds ends =
    subst (λ (f : Found). EndsBy false f end)
    (one_is_found bytes from next found.End finds at_end) ends

-- the end of the bytes isn't found where a frame is
end_is_no_frame : (bytes : List ℕ) (from : ℕ) (frame : FrameValue) (a b : ℕ)
    → Finds bytes from found.End → IsFrameAt bytes from frame a b → ⊥
end_is_no_frame bytes from frame a b at_end at =
    let (f, finds) = frame_is_found bytes from frame a b at in
    let same : found.Frame f ≡ found.End =
    one_is_found bytes from (found.Frame f) found.End finds at_end in
    absurd cc

-- bytes that are frames up to their end, split in any way, end whole
ends_whole : (bytes : List ℕ) (from : ℕ) (frames others : List FrameValue) (next : Found)
    (end : End) → Splits bytes from frames found.End → Splits bytes from others next
    → EndsBy false next end → end ≡ ending.Whole
ends_whole bytes from [] [] next end whole split ends =
    ends_at_end bytes from next end whole split ends
ends_whole bytes from [] (frame ∷ others) next end whole (a, b, at, later) ends =
    absurd (end_is_no_frame bytes from frame a b whole at)
ends_whole bytes from (frame ∷ frames) [] next end (a, b, at, later) finds ends =
    let (f, is_found) = frame_is_found bytes from frame a b at in
    absurd (subst (λ (n : Found). EndsBy false n end)
    (one_is_found bytes from next (found.Frame f) finds is_found) ends)
ends_whole bytes from (frame ∷ frames) (other ∷ others) next end (a, b, at, later)
    (c, d, there, behind) ends =
    let same : frame ≡ other = (one_frame_at bytes from frame a b other c d at there).frame in
    ends_whole bytes other.end frames others next end
    (subst (λ (f : FrameValue). Splits bytes f.end frames found.End) same later) behind ends

isnt_longer : (most length : ℕ) → length ≤ most → nat_lt most length ≡ false
isnt_longer most length few = grind (arith, nat_tests)

-- a whole input ends whole
pub whole_ends : (bytes : List ℕ) (others : List FrameValue) (next : Found) (end : End)
    → IsWholeInput bytes → Splits (take input_most bytes) 0 others next
    → EndsBy (nat_lt input_most (length bytes)) next end → end ≡ ending.Whole
whole_ends bytes others next end whole split ends =
    ends_whole bytes 0 whole.frames others next end whole.split
    (subst (λ (b : List ℕ). Splits b 0 others next) (take_all input_most bytes whole.few) split)
    (subst (λ (longer : Bool). EndsBy longer next end)
    (isnt_longer input_most (length bytes) whole.few) ends)

-- what holds of what is told
pub if_told : {A : Type 0} (P : A → Type 0) (told : Option A) → IsSome told → IfSome told P
    → (x : A) × P x
if_told P None is holds = absurd cc
if_told P (Some x) is holds = (x, holds)

-- what holds of what is told holds of this
pub if_this : {A : Type 0} (P : A → Type 0) (told : Option A) (x : A) → told ≡ Some x → IfSome told P
    → P x
if_this P told x is holds = subst (λ (t : Option _). IfSome t P) is holds

-- no output of a session had a fault
pub no_output_rose : (before after : PortsValue) (run : RunWords) → HasNoFault before after
    → (session : ℕ) → OutputRose before after run session → ⊥
no_output_rose before after run no_fault session (inl venue) = no_fault.written _ venue
no_output_rose before after run no_fault session (inr client) = no_fault.written _ client

module _ (before after : PortsValue) (run : RunWords) (texts : Texts)
    (told : before.texts ≡ Some texts) (told_after : IsSome after.texts)
    (whole : AreWholeTexts texts run) (no_fault : HasNoFault before after) where
  -- a session that followed a whole input ended whole
  follows_whole : (limits : Limits) (screens : List ScreenValue) (session : ℕ) (bytes : List ℕ)
      (own : List Act) (end : End)
      → IsWholeInput bytes → FollowsText limits screens after run session bytes own end
      → end ≡ ending.Whole
  follows_whole limits screens session bytes own end input follows =
      let (new, (venue, client, venue_is, client_is, did)) =
      if_told _ after.texts told_after follows in
      whole_ends bytes did.frames did.next end input did.split did.end_is

  -- a session of a whole input ended whole
  end_is_whole : (limits : Limits) (screens : List ScreenValue) (session : ℕ) (bytes : List ℕ)
      (own : List Act) (end : End)
      → IsWholeInput bytes → EndHolds limits screens before after run session bytes own end
      → is_memory end ≡ false → end ≡ ending.Whole
  end_is_whole limits screens session bytes own ending.ReadFault input holds remembers =
      absurd (no_fault.read _ holds.0)
  end_is_whole limits screens session bytes own ending.WriteFault input holds remembers =
      absurd (no_output_rose before after run no_fault session holds.0)
  end_is_whole limits screens session bytes own ending.Memory input holds remembers = absurd cc
  end_is_whole limits screens session bytes own ending.Whole input holds remembers = refl
  end_is_whole limits screens session bytes own (ending.Cut place) input holds remembers =
      follows_whole limits screens session bytes own (ending.Cut place) input holds
  end_is_whole limits screens session bytes own (ending.Broken place) input holds remembers =
      follows_whole limits screens session bytes own (ending.Broken place) input holds
  end_is_whole limits screens session bytes own (ending.TooLong place) input holds remembers =
      follows_whole limits screens session bytes own (ending.TooLong place) input holds

  -- the bytes at a session's place are those of its name, and whole
  pub input_is_whole : (inputs : List (List ℕ)) (session : ℕ) (bytes : List ℕ)
      → AreInputs before.texts run.sessions inputs → slice_get inputs session ≡ Some bytes
      → IsWholeInput bytes
  input_is_whole inputs session bytes are is =
      let same : map texts run.sessions ≡ map (λ own. Some own) inputs =
      if_this _ before.texts texts told are in
      let (name, is_name, has) = mapped_at texts run.sessions session (Some bytes)
      (ap (λ (all : List (Option (List ℕ))). slice_get all session) same
      ∙ map_at (λ own. Some own) inputs session bytes is) in
      let named : session_name run session ≡ name =
      get_or_from_slice_get run.sessions session name [] is_name in
      let (own, own_is, input) =
      whole.each session (slice_get_within run.sessions session name is_name) in
      let same_text : Some own ≡ Some bytes = sym own_is ∙ ap texts named ∙ has in
      let same_bytes : own ≡ bytes = cc in
      subst IsWholeInput same_bytes input

-- nothing that is false of a whole end is so of ends that are whole
none_of_whole : (p : End → Bool) (ends : List End) → p ending.Whole ≡ false
    → ((place : ℕ) (end : End) → slice_get ends place ≡ Some end → end ≡ ending.Whole)
    → list_any p ends ≡ false
none_of_whole p [] isnt each = refl
none_of_whole p (end ∷ ends) isnt each =
    let first : p end ≡ false = ap p (each 0 end refl) ∙ isnt in
    rw first (none_of_whole p ends isnt (λ place other is. each (suc place) other is))

-- what is so of none of the ends isn't so of any
pub isnt_any : (p : End → Bool) (ends : List End) (place : ℕ) (end : End) → list_any p ends ≡ false
    → slice_get ends place ≡ Some end → p end ≡ false
isnt_any p [] place end none is = absurd cc
isnt_any p (first ∷ ends) zero end none is =
    let same : first ≡ end = cc in
    sym (ap p same) ∙ (or_parts (p first) (list_any p ends) none).0
isnt_any p (first ∷ ends) (suc place) end none is =
    isnt_any p ends place end (or_parts (p first) (list_any p ends) none).1 is

-- ends that are all whole, with a journal, stand at 0
pub stands_done : (ends : List End)
    → ((place : ℕ) (end : End) → slice_get ends place ≡ Some end → end ≡ ending.Whole)
    → standing_of ends false ≡ 0
stands_done ends each =
    rw (
      none_of_whole is_memory ends refl each,
      none_of_whole is_write_fault ends refl each,
      none_of_whole is_read_fault ends refl each,
      none_of_whole is_cut_short ends refl each,
    ) refl

module _ (before after : PortsValue) (run : RunWords) (texts : Texts)
    (told : before.texts ≡ Some texts)
    (whole : AreWholeTexts texts run) (no_fault : HasNoFault before after) (status : ℕ)
    (sets : List (List ScreenValue)) where
  -- the journal was written
  is_kept : (acts : List (List Act)) (lines : List (List Line)) (refused : Bool)
      → HasJournal before after run acts lines refused → refused ≡ false
  is_kept acts lines false journal = refl
  is_kept acts lines true (rose, front) = absurd (no_fault.written _ rose)

  -- what stands is told
  is_told : (text : List ℕ) (standing : ℕ) → Tells before after text standing status
      → status ≡ standing
  is_told text standing (inl told_so) = told_so.0
  is_told text standing (inr (failed, rose, front)) = absurd (no_fault.out rose)

  -- the sessions that ran
  run_is_done : HasRun run sets before after status → status ≡ 0
  run_is_done h =
      is_told _ _ h.told
      ∙ ap (standing_of h.ends) (is_kept h.acts h.lines h.refused h.journal)
      ∙ stands_done h.ends each_whole where
        told_after : IsSome after.texts
        told_after = h.tells (subst (λ (t : Option Texts). IsSome t) (sym told) refl)

        each_whole : (place : ℕ) (end : End) → slice_get h.ends place ≡ Some end
            → end ≡ ending.Whole
        each_whole place end is =
            let below = slice_get_within h.ends place end is in
            let (bytes, is_bytes) =
            there_is h.inputs place (omega (arith, below, h.end_count, h.input_count)) in
            let (own, is_own) =
            there_is h.acts place (omega (arith, below, h.end_count, h.act_count)) in
            end_is_whole before after run texts told told_after whole no_fault h.limits
            (armed_for h.limits (set_of sets place)) place bytes own end
            (input_is_whole before after run texts told told_after whole no_fault h.inputs place
            bytes h.inputs_are is_bytes)
            (h.each place bytes own end is_bytes is_own is)
            (isnt_any is_memory h.ends place end h.remembered is)

  -- the limit file isn't refused
  not_refused : (why : LimitFault) → IsRefused before.texts run.limits why → ⊥
  not_refused why refused =
      let (text, is, fault) = if_this _ before.texts texts told refused in
      let same : Some text ≡ Some whole.limit_text = sym is ∙ whole.limits_there in
      let same_text : text ≡ whole.limit_text = cc in
      not_both whole.limit_text whole.limits why whole.limits_are
      (subst (λ (t : List ℕ). IsFirstFault t why) same_text fault)

  -- each other way has a cause that didn't come
  went_is_done : RunWent run sets before after status → status ≡ 0
  went_is_done (inl unread) = absurd (no_fault.read _ unread.rose)
  went_is_done (inr (inl refused)) = absurd (not_refused refused.why refused.refused)
  went_is_done (inr (inr (inl unopened))) = absurd (no_fault.read _ unopened.rose)
  went_is_done (inr (inr (inr (inl refused)))) =
      absurd (no_output_rose before after run no_fault refused.session
      refused.rose)
  went_is_done (inr (inr (inr (inr ran)))) = run_is_done ran

-- whole inputs are done, unless memory was wanting
pub whole_is_done : (words : List (List ℕ)) (sets : List (List ScreenValue))
    (before after : PortsValue) (status : ℕ)
    → HasWholeInputs words before after → GateRun words sets before after status
    → (status ≡ 0) ⊎ (status ≡ 8)
whole_is_done words sets before after status has (inl memory) = inr memory
whole_is_done words sets before after status has (inr went) =
    inl (went_is_done before after has.run has.texts has.told has.whole has.no_fault
    status sets
    (subst (λ (command : Option Command). CommandWent words command sets before after status)
    has.is_run went))
