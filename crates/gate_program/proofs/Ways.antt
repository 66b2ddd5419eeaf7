-- The ways of a run, as its stages come one behind another.
use Rattle.std.proofs.Common.{◌≡◌, ◌≢◌, ℕ, List, [], refl, subst, length}
use Rattle.std.proofs.Common.{◌∙◌, inl, inr, Bool, true, false}
use Rattle.std.specs.Prelude.{Option, Some, ◌⊎◌}
use Rattle.std.specs.List.{list_any}
use Rattle.gate_ports.specs.Faults.{NeverFalls}
use Rattle.gate_ports.specs.Names.{Texts}
use Rattle.risk_board.specs.declared.hand.Line.{Line}
use Rattle.risk_journal.specs.declared.acts.Act.{Act}
use Rattle.risk_journal.specs.declared.acts.End.{End}
use Rattle.risk_journal.specs.declared.acts.End.TheVariants as ending
use Rattle.gate_files.specs.declared.status.Status.{Status}
use Rattle.gate_files.specs.declared.status.Status.TheVariants as status
use Rattle.limit_table.specs.declared.limits.Limits.{Limits}
use Rattle.screen_kit.specs.Screens.{ScreenValue}
use Rattle.session_engine.specs.Session.{armed_for}
use Rattle.gate_files.specs.Words.{RunWords, Command, journal_name}
use Rattle.gate_files.specs.Ports.{PortsValue}
use Rattle.gate_program.specs.Run.{EndHolds, StopsText, set_of}
use Rattle.gate_files.specs.Standing.{is_memory, standing_of}
use Rattle.gate_program.specs.Commands.{CommandWent}
use Rattle.gate_program.specs.Gate.{RunWent, SessionsWent, HasJournal}
use Rattle.gate_files.specs.Stops.{HasCounted, HasLimits}
use Rattle.gate_files.specs.Told.{IsTold}
use Rattle.gate_files.specs.Stages.{Went, HasLimitsFault, HasUnopened}
use Rattle.gate_files.specs.Objects.{ObjectsValue, HasOpened}
use Rattle.gate_program.specs.Finish.{HasEnded}
use Rattle.gate_files.specs.Statuses.{number_of, told_text}
use Rattle.gate_program.specs.Totals.{totals_of}
use Rattle.gate_files.proofs.Chains.{rose_from, zero_stands}
use Rattle.gate_files.proofs.Early.{others_left}
use Rattle.gate_program.proofs.Histories.{AdmissionLaws}
use Rattle.gate_program.proofs.Ran.{silent, shown, has_run, stops_from}

-- there are no limits
pub no_limits_went : (run : RunWords) (sets : List (List ScreenValue)) (t0 : Option Texts)
    (r0 w0 : List ℕ → ℕ) (t1 : Option Texts)
    (r1 w1 : List ℕ → ℕ)
    (s : Status) → t1 ≡ t0 → HasLimitsFault (silent t0 r0 w0) (silent t1 r1 w1) run.limits s
    → (number_of s ≡ 8) ⊎ RunWent run sets (shown t0 r0 w0 []) (shown t1 r1 w1 (told_text s))
    (number_of s)
no_limits_went run sets t0 r0 w0 t1 r1 w1 status.ReadFault same rose =
    inr (inl (record { rose = rose; texts = same; told = inl (refl, refl) }))
no_limits_went run sets t0 r0 w0 t1 r1 w1 (status.Limits why) same refused =
    inr (inr (inl (record { why = why; refused = refused; texts = same; told = inl (refl, refl) })))
no_limits_went run sets t0 r0 w0 t1 r1 w1 status.Memory same fault = inl refl
no_limits_went run sets t0 r0 w0 t1 r1 w1 status.Done same fault = absurd fault
no_limits_went run sets t0 r0 w0 t1 r1 w1 status.Usage same fault = absurd fault
no_limits_went run sets t0 r0 w0 t1 r1 w1 status.CutShort same fault = absurd fault
no_limits_went run sets t0 r0 w0 t1 r1 w1 status.WriteFault same fault = absurd fault
no_limits_went run sets t0 r0 w0 t1 r1 w1 status.Unlawful same fault = absurd fault

module _ (run : RunWords) (sets : List (List ScreenValue)) (t : Option Texts)
    (r0 w0 r1 w1 : List ℕ → ℕ) (t2 : Option Texts)
    (r2 w2 : List ℕ → ℕ)
    (text : List ℕ) (reads : NeverFalls r0 r1) (writes : NeverFalls w0 w1) where
  stops_earlier : (limits : Limits) (screens : List ScreenValue) (n : ℕ) (bytes : List ℕ)
      (own : List Act) (end : End)
      → StopsText limits screens (shown t r1 w1 []) (shown t2 r2 w2 text) run n bytes own end
      → StopsText limits screens (shown t r0 w0 []) (shown t2 r2 w2 text) run n bytes own end
  stops_earlier limits screens n bytes own end stops =
      stops_from limits screens (shown t r1 w1 []) (shown t r0 w0 []) (shown t2 r2 w2 text) run n
      bytes own end (λ name. rose_from _ _ _ (writes name)) stops

  end_earlier : (limits : Limits) (screens : List ScreenValue) (n : ℕ) (bytes : List ℕ)
      (own : List Act) (end : End)
      → EndHolds limits screens (shown t r1 w1 []) (shown t2 r2 w2 text) run n bytes own end
      → EndHolds limits screens (shown t r0 w0 []) (shown t2 r2 w2 text) run n bytes own end
  end_earlier limits screens n bytes own ending.ReadFault (rose, ends, stops) = (
    rose_from _ _ _ (reads _) rose,
    ends,
    stops_earlier limits screens n bytes own ending.ReadFault stops,
  )
  end_earlier limits screens n bytes own ending.WriteFault (inl rose, ends, stops) = (
    inl (rose_from _ _ _ (writes _) rose),
    ends,
    stops_earlier limits screens n bytes own ending.WriteFault stops,
  )
  end_earlier limits screens n bytes own ending.WriteFault (inr rose, ends, stops) = (
    inr (rose_from _ _ _ (writes _) rose),
    ends,
    stops_earlier limits screens n bytes own ending.WriteFault stops,
  )
  end_earlier limits screens n bytes own ending.Memory holds = holds
  end_earlier limits screens n bytes own ending.Whole holds = holds
  end_earlier limits screens n bytes own (ending.Cut place) holds = holds
  end_earlier limits screens n bytes own (ending.Broken place) holds = holds
  end_earlier limits screens n bytes own (ending.TooLong place) holds = holds

  journal_earlier : (acts : List (List Act)) (lines : List (List Line)) (refused : Bool)
      → HasJournal (shown t r1 w1 []) (shown t2 r2 w2 text) run acts lines refused
      → HasJournal (shown t r0 w0 []) (shown t2 r2 w2 text) run acts lines refused
  journal_earlier acts lines false journal = journal
  journal_earlier acts lines true (rose, front) =
      (rose_from _ _ _ (writes (journal_name run.out)) rose, front)

  -- what was done after calls that changed no text was done from before them
  sessions_earlier : (n : ℕ) → SessionsWent run sets (shown t r1 w1 []) (shown t2 r2 w2 text) n
      → SessionsWent run sets (shown t r0 w0 []) (shown t2 r2 w2 text) n
  sessions_earlier n (inl h) = inl (record {
    limits = h.limits;
    limits_are = h.limits_are;
    session = h.session;
    in_range = h.in_range;
    rose = rose_from _ _ _ (reads _) h.rose;
    left = h.left;
    others = h.others;
    told = h.told;
  })
  sessions_earlier n (inr (inl h)) = inr (inl (record {
    limits = h.limits;
    limits_are = h.limits_are;
    session = h.session;
    in_range = h.in_range;
    rose = elim h.rose [
      | inl rose ↦ inl (rose_from _ _ _ (writes _) rose)
      | inr rose
          ↦ inr (rose_from _ _ _ (writes _) rose)
    ];
    left = h.left;
    others = h.others;
    told = h.told;
  }))
  sessions_earlier n (inr (inr h)) = inr (inr (record {
    limits = h.limits;
    inputs = h.inputs;
    acts = h.acts;
    ends = h.ends;
    lines = h.lines;
    refused = h.refused;
    limits_are = h.limits_are;
    remembered = h.remembered;
    inputs_are = h.inputs_are;
    input_count = h.input_count;
    act_count = h.act_count;
    end_count = h.end_count;
    each = λ session bytes own end is_bytes is_own is_end.
        end_earlier h.limits (armed_for h.limits (set_of sets session)) session bytes own end
        (h.each session bytes own end is_bytes is_own is_end);
    history = h.history;
    journal = journal_earlier h.acts h.lines h.refused h.journal;
    others = h.others;
    tells = h.tells;
    told = h.told;
  }))

-- the same behind calls that changed no text
pub went_behind : (run : RunWords) (sets : List (List ScreenValue)) (t0 t1 : Option Texts)
    (r0 w0 r1 w1 : List ℕ → ℕ)
    (t2 : Option Texts) (r2 w2 : List ℕ → ℕ)
    (text : List ℕ) (n : ℕ) → Went (silent t0 r0 w0) (silent t1 r1 w1) → t1 ≡ t0 → (n ≡ 8)
    ⊎ SessionsWent run sets (shown t1 r1 w1 []) (shown t2 r2 w2 text) n
    → (n ≡ 8) ⊎ RunWent run sets (shown t0 r0 w0 []) (shown t2 r2 w2 text) n
went_behind run sets t0 t1 r0 w0 r1 w1 t2 r2 w2 text n went same (inl memory) = inl memory
went_behind run sets t0 t1 r0 w0 r1 w1 t2 r2 w2 text n went same (inr did) =
    inr (inr (inr (sessions_earlier run sets t0 r0 w0 r1 w1 t2 r2 w2 text went.read went.written n
    (subst (λ (t : Option Texts). SessionsWent run sets (shown t r1 w1 []) (shown t2 r2 w2 text) n)
    same did))))

-- a session or its outputs could not be opened
pub unopened : (run : RunWords) (limits : Limits) (sets : List (List ScreenValue))
    (t0 : Option Texts) (r0 w0 : List ℕ → ℕ)
    (t1 : Option Texts) (r1 w1 : List ℕ → ℕ) (s : Status) → HasLimits t0 run.limits limits
    → HasUnopened run (silent t0 r0 w0) (silent t1 r1 w1) s
    → (number_of s ≡ 8)
    ⊎ SessionsWent run sets (shown t0 r0 w0 []) (shown t1 r1 w1 (told_text s)) (number_of s)
unopened run limits sets t0 r0 w0 t1 r1 w1 status.ReadFault limits_are
    (session, below, rose, left) =
    inr (inl (record {
      limits = limits;
      limits_are = limits_are;
      session = session;
      in_range = below;
      rose = rose;
      left = left;
      others = others_left run session t0 t1 below left;
      told = inl (refl, refl);
    }))
unopened run limits sets t0 r0 w0 t1 r1 w1 status.WriteFault limits_are
    (session, below, rose, left) =
    inr (inr (inl (record {
      limits = limits;
      limits_are = limits_are;
      session = session;
      in_range = below;
      rose = rose;
      left = left;
      others = others_left run session t0 t1 below left;
      told = inl (refl, refl);
    })))
unopened run limits sets t0 r0 w0 t1 r1 w1 status.Memory limits_are fault = inl refl
unopened run limits sets t0 r0 w0 t1 r1 w1 status.Done limits_are (session, below, fault, left) = absurd
    fault
unopened run limits sets t0 r0 w0 t1 r1 w1 status.Usage limits_are (session, below, fault, left) = absurd
    fault
unopened run limits sets t0 r0 w0 t1 r1 w1 (status.Limits why) limits_are (session, below, fault, left) =
    absurd fault
unopened run limits sets t0 r0 w0 t1 r1 w1 status.CutShort limits_are (session, below, fault, left) =
    absurd
    fault
unopened run limits sets t0 r0 w0 t1 r1 w1 status.Unlawful limits_are unopened_at =
    absurd unopened_at.2

-- the limits that count for so many sessions, by equal counts
pub counted_as : (told : Option Texts) (name : List ℕ) (count sessions : ℕ) (limits : Limits)
    → count ≡ sessions → HasCounted told name count limits → HasCounted told name sessions limits
counted_as told name count sessions limits same counted =
    subst (λ (n : ℕ). HasCounted told name n limits) same counted

-- sessions of which one wanted memory stand at 8, and any others did what their run says
pub memory_or_run : {R : Type 0} (ends : List End) (refused : Bool) (n : ℕ) (wanting : Bool)
    → list_any is_memory ends ≡ wanting → n ≡ standing_of ends refused
    → (list_any is_memory ends ≡ false → R) → (n ≡ 8) ⊎ R
memory_or_run ends refused n true is stands run = inl (stands ∙ at_memory ends refused is) where
  at_memory : (all : List End) (r : Bool) → list_any is_memory all ≡ true → standing_of all r ≡ 8
  at_memory all r wants = rw wants refl
memory_or_run ends refused n false is stands run = inr (run is)

-- the sessions were opened behind the limits, and ended
pub ended_went : {S : Type 0} (faults : S → ℕ) (run : RunWords) (limits : Limits) (sets : List (List ScreenValue))
    (t0 : Option Texts) (r0 w0 : List ℕ → ℕ)
    (t1 : Option Texts) (r1 w1 : List ℕ → ℕ) (t2 : Option Texts) (r2 w2 : List ℕ → ℕ)
    (objects : List ObjectsValue) (text : List ℕ) (n : ℕ)
    → HasOpened run (silent t0 r0 w0) (silent t1 r1 w1) objects
    → length objects ≡ length run.sessions → HasCounted t0 run.limits (length run.sessions) limits
    → AdmissionLaws
    → (n ≡ 8) ⊎ HasEnded faults (totals_of limits) limits sets run (silent t1 r1 w1) (silent t2 r2 w2) objects text n
    → (n ≡ 8) ⊎ SessionsWent run sets (shown t0 r0 w0 []) (shown t2 r2 w2 text) n
ended_went faults run limits sets t0 r0 w0 t1 r1 w1 t2 r2 w2 objects text n opened many limits_are laws
    (inl memory) = inl memory
ended_went faults run limits sets t0 r0 w0 t1 r1 w1 t2 r2 w2 objects text n opened many limits_are laws
    (inr ended) =
    memory_or_run ended.ends ended.finished.refused n (list_any is_memory ended.ends) refl
    ended.finished.answer.stands
    (λ remembered. inr (inr (has_run faults run limits sets t0 r0 w0 t1 r1 w1 t2 r2 w2 objects text n
    opened
    many
    ended limits_are laws remembered)))

-- a folder beside a standard output
abbrev pub beside : Option Texts → (List ℕ → ℕ) → (List ℕ → ℕ) → Option (List ℕ) → ℕ → PortsValue
beside texts reads writes held faults = record {
  texts = texts;
  read_faults = reads;
  write_faults = writes;
  held = held;
  out_faults = faults;
}

-- what an answer says is told
pub told_so : (text : List ℕ) (n : ℕ) (held held_after : Option (List ℕ))
    (faults faults_after answer : ℕ) → IsTold held held_after faults faults_after text n answer
    → (say : List ℕ) (standing : ℕ) → IsTold (Some []) (Some text) 0 0 say standing n
    → IsTold held held_after faults faults_after say standing answer
told_so text n held held_after faults faults_after answer told say standing (inl is) =
    subst (λ (m : ℕ). IsTold held held_after faults faults_after say m answer) is.0
    (subst (λ (s : List ℕ). IsTold held held_after faults faults_after s n answer) is.1 told)
told_so text n held held_after faults faults_after answer told say standing (inr faulty) =
    absurd (zero_stands faulty.1)

module _ (run : RunWords) (sets : List (List ScreenValue)) (t0 : Option Texts)
    (r0 w0 : List ℕ → ℕ) (t1 : Option Texts)
    (r1 w1 : List ℕ → ℕ) (text : List ℕ) (n : ℕ)
    (held held_after : Option (List ℕ)) (faults faults_after answer : ℕ)
    (told : IsTold held held_after faults faults_after text n answer) where
  -- what such a way says is told
  say_so : (say : List ℕ) (standing : ℕ) → IsTold (Some []) (Some text) 0 0 say standing n
      → IsTold held held_after faults faults_after say standing answer
  say_so = told_so text n held held_after faults faults_after answer told

  pub end_beside : (limits : Limits) (screens : List ScreenValue) (session : ℕ) (bytes : List ℕ)
      (own : List Act) (end : End)
      → EndHolds limits screens (shown t0 r0 w0 []) (shown t1 r1 w1 text) run session bytes own end
      → EndHolds limits screens (beside t0 r0 w0 held faults)
      (beside t1 r1 w1 held_after faults_after) run
      session bytes own end
  end_beside limits screens session bytes own ending.ReadFault holds = holds
  end_beside limits screens session bytes own ending.WriteFault holds = holds
  end_beside limits screens session bytes own ending.Memory holds = holds
  end_beside limits screens session bytes own ending.Whole holds = holds
  end_beside limits screens session bytes own (ending.Cut place) holds = holds
  end_beside limits screens session bytes own (ending.Broken place) holds = holds
  end_beside limits screens session bytes own (ending.TooLong place) holds = holds

  pub journal_beside : (acts : List (List Act)) (lines : List (List Line)) (refused : Bool)
      → HasJournal (shown t0 r0 w0 []) (shown t1 r1 w1 text) run acts lines refused
      → HasJournal (beside t0 r0 w0 held faults) (beside t1 r1 w1 held_after faults_after) run acts
      lines refused
  journal_beside acts lines false journal = journal
  journal_beside acts lines true journal = journal

  -- what a run did behind its limits, once it is told
  sessions_told : SessionsWent run sets (shown t0 r0 w0 []) (shown t1 r1 w1 text) n
      → SessionsWent run sets (beside t0 r0 w0 held faults)
      (beside t1 r1 w1 held_after faults_after)
      answer
  sessions_told (inl h) = inl (record {
    limits = h.limits;
    limits_are = h.limits_are;
    session = h.session;
    in_range = h.in_range;
    rose = h.rose;
    left = h.left;
    others = h.others;
    told = say_so _ _ h.told;
  })
  sessions_told (inr (inl h)) = inr (inl (record {
    limits = h.limits;
    limits_are = h.limits_are;
    session = h.session;
    in_range = h.in_range;
    rose = h.rose;
    left = h.left;
    others = h.others;
    told = say_so _ _ h.told;
  }))
  sessions_told (inr (inr h)) = inr (inr (record {
    limits = h.limits;
    inputs = h.inputs;
    acts = h.acts;
    ends = h.ends;
    lines = h.lines;
    refused = h.refused;
    limits_are = h.limits_are;
    remembered = h.remembered;
    inputs_are = h.inputs_are;
    input_count = h.input_count;
    act_count = h.act_count;
    end_count = h.end_count;
    each = λ session bytes own end is_bytes is_own is_end.
        end_beside h.limits (armed_for h.limits (set_of sets session)) session bytes own end
        (h.each session bytes own end is_bytes is_own is_end);
    history = h.history;
    journal = journal_beside h.acts h.lines h.refused h.journal;
    others = h.others;
    tells = h.tells;
    told = say_so _ _ h.told;
  }))

  -- what a run did, once it is told
  pub went_told : RunWent run sets (shown t0 r0 w0 []) (shown t1 r1 w1 text) n
      → RunWent run sets (beside t0 r0 w0 held faults) (beside t1 r1 w1 held_after faults_after)
      answer
  went_told (inl h) = inl (record { rose = h.rose; texts = h.texts; told = say_so _ _ h.told })
  went_told (inr (inl h)) = inr (inl (record {
    why = h.why;
    refused = h.refused;
    texts = h.texts;
    told = say_so _ _ h.told;
  }))
  went_told (inr (inr did)) = inr (inr (sessions_told did))

-- what a run did and what was told of it
pub run_told : (run : RunWords) (sets : List (List ScreenValue)) (t0 : Option Texts)
    (r0 w0 : List ℕ → ℕ) (t1 : Option Texts)
    (r1 w1 : List ℕ → ℕ) (text : List ℕ) (n : ℕ)
    (held held_after : Option (List ℕ)) (faults faults_after answer : ℕ) → n ≢ 8
    → (n ≡ 8) ⊎ RunWent run sets (shown t0 r0 w0 []) (shown t1 r1 w1 text) n
    → (answer ≡ 8) ⊎ IsTold held held_after faults faults_after text n answer
    → (answer ≡ 8) ⊎ RunWent run sets (beside t0 r0 w0 held faults)
    (beside t1 r1 w1 held_after faults_after) answer
run_told run sets t0 r0 w0 t1 r1 w1 text n held held_after faults faults_after answer memory
    (inl is)
    told =
    absurd (memory is)
run_told run sets t0 r0 w0 t1 r1 w1 text n held held_after faults faults_after answer memory
    (inr did)
    (inl is) = inl is
run_told run sets t0 r0 w0 t1 r1 w1 text n held held_after faults faults_after answer memory
    (inr did)
    (inr told) =
    inr (went_told run sets t0 r0 w0 t1 r1 w1 text n held held_after faults faults_after answer told
    did)

-- the way of a command is that of its words
pub command_went : (words : List (List ℕ)) (command : Option Command) (own : Command)
    (sets : List (List ScreenValue))
    (before after : PortsValue) (n : ℕ) → Some own ≡ command
    → (n ≡ 8) ⊎ CommandWent words (Some own) sets before after n
    → (n ≡ 8) ⊎ CommandWent words command sets before after n
command_went words command own sets before after n is went =
    subst (λ (asked : Option Command). (n ≡ 8) ⊎ CommandWent words asked sets before after n) is
    went
