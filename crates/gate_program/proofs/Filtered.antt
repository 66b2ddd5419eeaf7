-- A filter in which nothing failed ends by its inputs: each other way has a cause that the counts rule
-- out.
use Rattle.std.proofs.Common.{◌≡◌, ℕ, suc, List, [], ◌∷◌, ◌∙◌, refl, sym, ap, subst, inl, inr, arith}
use Rattle.std.proofs.Common.{Bool, true, false}
use Rattle.std.proofs.lemmas.Option.{slice_get_within}
use Rattle.std.specs.Prelude.{Option, Some, IsSome, slice_get, ◌⊎◌}
use Rattle.std.specs.List.{list_any}
use Rattle.gate_ports.specs.Names.{Texts}
use Rattle.limit_table.specs.declared.fault.LimitFault.{LimitFault}
use Rattle.limit_table.specs.declared.limits.Limits.{Limits}
use Rattle.limit_table.specs.Files.{IsFirstFault}
use Rattle.limit_table.proofs.OneAnswer.{not_both}
use Rattle.risk_board.specs.declared.hand.Line.{Line}
use Rattle.risk_journal.specs.declared.acts.Act.{Act}
use Rattle.risk_journal.specs.declared.acts.End.{End}
use Rattle.risk_journal.specs.declared.acts.End.TheVariants as ending
use Rattle.screen_kit.specs.Screens.{ScreenValue}
use Rattle.gate_files.specs.Ports.{PortsValue}
use Rattle.gate_files.specs.Standing.{is_cut_short, is_memory, is_read_fault, is_write_fault}
use Rattle.gate_files.specs.Standing.{standing_of}
use Rattle.gate_files.specs.Stops.{IsRefused}
use Rattle.gate_files.specs.Told.{Tells}
use Rattle.gate_files.specs.Words.{Command, RunWords}
use Rattle.gate_files.proofs.Lists.{there_is}
use Rattle.session_tasks.specs.Holding.{EndHolds}
use Rattle.session_tasks.specs.Kept.{HasJournal}
use Rattle.cross_command.specs.Crossed.{CrossWent, HasCrossed}
use Rattle.cross_command.specs.Rules.{follows, stops}
use Rattle.gate_program.specs.Commands.{CommandWent, GateRun}
use Rattle.gate_program.specs.Filters.{HasUnfailingFilter, HasWholeFilter, IsFiltered}
use Rattle.gate_program.specs.WholeInputs.{AreWholeTexts, HasNoFault, IsWholeInput}
use Rattle.gate_program.proofs.WholeInputs.{if_told, if_this, input_is_whole, isnt_any}
use Rattle.gate_program.proofs.WholeInputs.{no_output_rose, stands_done, whole_ends}

-- what is so of no end isn't so of any
none_of : (p : End → Bool) (ends : List End)
    → ((place : ℕ) (end : End) → slice_get ends place ≡ Some end → p end ≡ false)
    → list_any p ends ≡ false
none_of p [] each = refl
none_of p (end ∷ ends) each =
    let first = each 0 end refl in
    rw first (none_of p ends (λ place other is. each (suc place) other is))

-- the status of sessions that no fault ended, with a journal
done_or_cut : (ends : List End) (cut : Bool) → list_any is_memory ends ≡ false
    → list_any is_write_fault ends ≡ false → list_any is_read_fault ends ≡ false
    → list_any is_cut_short ends ≡ cut
    → (standing_of ends false ≡ 0) ⊎ (standing_of ends false ≡ 4)
done_or_cut ends true memory write read cut = inr (rw (memory, write, read, cut) refl)
done_or_cut ends false memory write read cut = inl (rw (memory, write, read, cut) refl)

module _ (before after : PortsValue) (run : RunWords) (no_fault : HasNoFault before after)
    (status : ℕ) where
  -- the journal was written
  is_kept : (acts : List (List Act)) (lines : List (List Line)) (refused : Bool)
      → HasJournal before after run acts lines refused → refused ≡ false
  is_kept acts lines false journal = refl
  is_kept acts lines true (rose, front) = absurd (no_fault.written _ rose)

  -- what stands is told
  is_told : (text : List ℕ) (standing : ℕ) → Tells before after text standing status
      → status ≡ standing
  is_told text standing (inl told_so) = told_so.0
  is_told text standing (inr (failed, rose, front)) = absurd (no_fault.out rose)

  -- no read and no write ended a session
  no_read : (limits : Limits) (session : ℕ) (bytes : List ℕ) (own : List Act) (end : End)
      → EndHolds (follows limits session) (stops limits session) before after run session bytes own
      end
      → is_read_fault end ≡ false
  no_read limits session bytes own ending.ReadFault holds = absurd (no_fault.read _ holds.0)
  no_read limits session bytes own ending.WriteFault holds = refl
  no_read limits session bytes own ending.Memory holds = refl
  no_read limits session bytes own ending.Whole holds = refl
  no_read limits session bytes own (ending.Cut place) holds = refl
  no_read limits session bytes own (ending.Broken place) holds = refl
  no_read limits session bytes own (ending.TooLong place) holds = refl

  no_write : (limits : Limits) (session : ℕ) (bytes : List ℕ) (own : List Act) (end : End)
      → EndHolds (follows limits session) (stops limits session) before after run session bytes own
      end
      → is_write_fault end ≡ false
  no_write limits session bytes own ending.ReadFault holds = refl
  no_write limits session bytes own ending.WriteFault holds =
      absurd (no_output_rose before after run no_fault session holds.0)
  no_write limits session bytes own ending.Memory holds = refl
  no_write limits session bytes own ending.Whole holds = refl
  no_write limits session bytes own (ending.Cut place) holds = refl
  no_write limits session bytes own (ending.Broken place) holds = refl
  no_write limits session bytes own (ending.TooLong place) holds = refl

  module _ (h : HasCrossed run before after status) where
    -- what is known of each end
    end_at : (p : End → Bool)
        → ((session : ℕ) (bytes : List ℕ) (own : List Act) (end : End)
        → EndHolds (follows h.limits session) (stops h.limits session) before after run session
        bytes own end → p end ≡ false)
        → (place : ℕ) (end : End) → slice_get h.ends place ≡ Some end → p end ≡ false
    end_at p isnt place end is =
        let below = slice_get_within h.ends place end is in
        let (bytes, is_bytes) =
        there_is h.inputs place (omega (arith, below, h.ran.end_count, h.ran.input_count)) in
        let (own, is_own) =
        there_is h.acts place (omega (arith, below, h.ran.end_count, h.ran.act_count)) in
        isnt place bytes own end (h.ran.each place bytes own end is_bytes is_own is)

    -- the status by the ends and a journal that stands
    stands : status ≡ standing_of h.ends false
    stands =
        is_told _ _ h.told
        ∙ ap (standing_of h.ends) (is_kept h.acts h.lines h.refused h.ran.journal)

    crossed_is_filtered : IsFiltered status
    crossed_is_filtered =
        elim (done_or_cut h.ends (list_any is_cut_short h.ends) h.ran.remembered
        (none_of is_write_fault h.ends (end_at is_write_fault (no_write h.limits)))
        (none_of is_read_fault h.ends (end_at is_read_fault (no_read h.limits))) refl) [
          | inl done ↦ inl (stands ∙ done)
          | inr cut ↦ inr (inr (inl (stands ∙ cut)))
        ]

  went_is_filtered : CrossWent run before after status → IsFiltered status
  went_is_filtered (inl unread) = absurd (no_fault.read _ unread.rose)
  went_is_filtered (inr (inl refused)) = inr (inl (is_told _ _ refused.told))
  went_is_filtered (inr (inr (inl unopened))) = absurd (no_fault.read _ unopened.rose)
  went_is_filtered (inr (inr (inr (inl refused)))) =
      absurd (no_output_rose before after run no_fault refused.session refused.rose)
  went_is_filtered (inr (inr (inr (inr ran)))) = crossed_is_filtered ran

-- a filter in which nothing failed ends by its inputs, unless memory was wanting
pub unfailing_is_filtered : (words : List (List ℕ)) (sets : List (List ScreenValue))
    (before after : PortsValue) (status : ℕ)
    → HasUnfailingFilter words before after → GateRun words sets before after status
    → IsFiltered status
unfailing_is_filtered words sets before after status has (inl memory) = inr (inr (inr memory))
unfailing_is_filtered words sets before after status has (inr went) =
    went_is_filtered before after has.run has.no_fault status
    (subst (λ (command : Option Command). CommandWent words command sets before after status)
    has.is_filter went)

module _ (before after : PortsValue) (run : RunWords) (texts : Texts)
    (told : before.texts ≡ Some texts) (whole : AreWholeTexts texts run)
    (no_fault : HasNoFault before after) (status : ℕ) where
  -- a session of a whole input ended whole
  end_is_whole : IsSome after.texts → (limits : Limits) (session : ℕ) (bytes : List ℕ)
      (own : List Act) (end : End) → IsWholeInput bytes
      → EndHolds (follows limits session) (stops limits session) before after run session bytes own
      end
      → is_memory end ≡ false → end ≡ ending.Whole
  end_is_whole told_after limits session bytes own ending.ReadFault input holds remembers =
      absurd (no_fault.read _ holds.0)
  end_is_whole told_after limits session bytes own ending.WriteFault input holds remembers =
      absurd (no_output_rose before after run no_fault session holds.0)
  end_is_whole told_after limits session bytes own ending.Memory input holds remembers = absurd cc
  end_is_whole told_after limits session bytes own ending.Whole input holds remembers = refl
  end_is_whole told_after limits session bytes own (ending.Cut place) input holds remembers =
      let (new, (venue, client, venue_is, client_is, did)) =
      if_told _ after.texts told_after holds in
      whole_ends bytes did.frames did.next (ending.Cut place) input did.split did.end_is
  end_is_whole told_after limits session bytes own (ending.Broken place) input holds remembers =
      let (new, (venue, client, venue_is, client_is, did)) =
      if_told _ after.texts told_after holds in
      whole_ends bytes did.frames did.next (ending.Broken place) input did.split did.end_is
  end_is_whole told_after limits session bytes own (ending.TooLong place) input holds remembers =
      let (new, (venue, client, venue_is, client_is, did)) =
      if_told _ after.texts told_after holds in
      whole_ends bytes did.frames did.next (ending.TooLong place) input did.split did.end_is

  crossed_is_done : HasCrossed run before after status → status ≡ 0
  crossed_is_done h =
      is_told before after run no_fault status _ _ h.told
      ∙ ap (standing_of h.ends)
      (is_kept before after run no_fault status h.acts h.lines h.refused h.ran.journal)
      ∙ stands_done h.ends each_whole where
        told_after : IsSome after.texts
        told_after = h.ran.tells (subst (λ (t : Option Texts). IsSome t) (sym told) refl)

        each_whole : (place : ℕ) (end : End) → slice_get h.ends place ≡ Some end
            → end ≡ ending.Whole
        each_whole place end is =
            let below = slice_get_within h.ends place end is in
            let (bytes, is_bytes) =
            there_is h.inputs place (omega (arith, below, h.ran.end_count, h.ran.input_count)) in
            let (own, is_own) =
            there_is h.acts place (omega (arith, below, h.ran.end_count, h.ran.act_count)) in
            end_is_whole told_after h.limits place bytes own end
            (input_is_whole before after run texts told told_after whole no_fault h.inputs place
            bytes h.ran.inputs_are is_bytes)
            (h.ran.each place bytes own end is_bytes is_own is)
            (isnt_any is_memory h.ends place end h.ran.remembered is)

  -- the limit file isn't refused
  not_refused : (why : LimitFault) → IsRefused before.texts run.limits why → ⊥
  not_refused why refused =
      let (text, is, fault) = if_this _ before.texts texts told refused in
      let same : Some text ≡ Some whole.limit_text = sym is ∙ whole.limits_there in
      let same_text : text ≡ whole.limit_text = cc in
      not_both whole.limit_text whole.limits why whole.limits_are
      (subst (λ (t : List ℕ). IsFirstFault t why) same_text fault)

  went_is_done : CrossWent run before after status → status ≡ 0
  went_is_done (inl unread) = absurd (no_fault.read _ unread.rose)
  went_is_done (inr (inl refused)) = absurd (not_refused refused.why refused.refused)
  went_is_done (inr (inr (inl unopened))) = absurd (no_fault.read _ unopened.rose)
  went_is_done (inr (inr (inr (inl refused)))) =
      absurd (no_output_rose before after run no_fault refused.session refused.rose)
  went_is_done (inr (inr (inr (inr ran)))) = crossed_is_done ran

-- a filter of whole inputs is done, unless memory was wanting
pub whole_is_filtered : (words : List (List ℕ)) (sets : List (List ScreenValue))
    (before after : PortsValue) (status : ℕ)
    → HasWholeFilter words before after → GateRun words sets before after status
    → (status ≡ 0) ⊎ (status ≡ 8)
whole_is_filtered words sets before after status has (inl memory) = inr memory
whole_is_filtered words sets before after status has (inr went) =
    let unfailing = has.unfailing in
    inl (went_is_done before after unfailing.run has.texts has.told has.whole unfailing.no_fault
    status
    (subst (λ (command : Option Command). CommandWent words command sets before after status)
    unfailing.is_filter went))
