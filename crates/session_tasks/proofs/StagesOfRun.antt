-- The ways of a command that runs sessions, as its stages come one behind another.
use Rattle.std.proofs.Common.{◌≡◌, ◌≢◌, ℕ, List, [], refl, subst}
use Rattle.std.proofs.Common.{◌∙◌, inl, inr, Bool, true, false}
use Rattle.std.specs.Prelude.{Option, Some, ◌⊎◌}
use Rattle.std.specs.List.{list_any}
use Rattle.gate_ports.specs.Faults.{NeverFalls}
use Rattle.gate_ports.specs.Names.{Texts}
use Rattle.risk_board.specs.declared.hand.Line.{Line}
use Rattle.risk_journal.specs.declared.acts.Act.{Act}
use Rattle.risk_journal.specs.declared.acts.End.{End}
use Rattle.risk_journal.specs.declared.acts.End.TheVariants as ending
use Rattle.gate_files.specs.declared.status.Status.{Status}
use Rattle.gate_files.specs.declared.status.Status.TheVariants as status
use Rattle.limit_table.specs.declared.limits.Limits.{Limits}
use Rattle.gate_files.specs.Words.{RunWords, journal_name}
use Rattle.gate_files.specs.Ports.{PortsValue}
use Rattle.gate_files.specs.Standing.{is_memory, standing_of}
use Rattle.gate_files.specs.Stops.{HasCounted, HasLimits}
use Rattle.gate_files.specs.Told.{IsTold}
use Rattle.gate_files.specs.Stages.{Went, HasLimitsFault, HasUnopened}
use Rattle.gate_files.specs.Statuses.{number_of, told_text}
use Rattle.session_tasks.specs.Rules.{InputRule, EarlyRule, IsByCauses}
use Rattle.session_tasks.specs.Holding.{EndHolds, StopsText}
use Rattle.session_tasks.specs.Kept.{HasJournal}
use Rattle.session_tasks.specs.Ran.{HaveRan}
use Rattle.session_tasks.specs.Ways.{Outcome, SessionsWent, WordsWent}
use Rattle.gate_files.proofs.Chains.{rose_from, zero_stands}
use Rattle.gate_files.proofs.Early.{others_left}
use Rattle.session_tasks.proofs.RanSessions.{silent, shown, stops_from}

-- a folder beside a standard output
abbrev pub beside : Option Texts → (List ℕ → ℕ) → (List ℕ → ℕ) → Option (List ℕ) → ℕ → PortsValue
beside texts reads writes held faults = record {
  texts = texts;
  read_faults = reads;
  write_faults = writes;
  held = held;
  out_faults = faults;
}

-- there are no limits
pub no_limits_went : (Ran : Outcome) (run : RunWords) (t0 : Option Texts) (r0 w0 : List ℕ → ℕ)
    (t1 : Option Texts) (r1 w1 : List ℕ → ℕ)
    (s : Status) → t1 ≡ t0 → HasLimitsFault (silent t0 r0 w0) (silent t1 r1 w1) run.limits s
    → (number_of s ≡ 8) ⊎ WordsWent Ran run (shown t0 r0 w0 []) (shown t1 r1 w1 (told_text s))
    (number_of s)
no_limits_went Ran run t0 r0 w0 t1 r1 w1 status.ReadFault same rose =
    inr (inl (record { rose = rose; texts = same; told = inl (refl, refl) }))
no_limits_went Ran run t0 r0 w0 t1 r1 w1 (status.Limits why) same refused =
    inr (inr (inl (record { why = why; refused = refused; texts = same; told = inl (refl, refl) })))
no_limits_went Ran run t0 r0 w0 t1 r1 w1 status.Memory same fault = inl refl
no_limits_went Ran run t0 r0 w0 t1 r1 w1 status.Done same fault = absurd fault
no_limits_went Ran run t0 r0 w0 t1 r1 w1 status.Usage same fault = absurd fault
no_limits_went Ran run t0 r0 w0 t1 r1 w1 status.CutShort same fault = absurd fault
no_limits_went Ran run t0 r0 w0 t1 r1 w1 status.WriteFault same fault = absurd fault
no_limits_went Ran run t0 r0 w0 t1 r1 w1 status.Unlawful same fault = absurd fault

-- a session or its outputs could not be opened
pub unopened : (Ran : Outcome) (run : RunWords) (limits : Limits)
    (t0 : Option Texts) (r0 w0 : List ℕ → ℕ)
    (t1 : Option Texts) (r1 w1 : List ℕ → ℕ) (s : Status) → HasLimits t0 run.limits limits
    → HasUnopened run (silent t0 r0 w0) (silent t1 r1 w1) s
    → (number_of s ≡ 8)
    ⊎ SessionsWent Ran run (shown t0 r0 w0 []) (shown t1 r1 w1 (told_text s)) (number_of s)
unopened Ran run limits t0 r0 w0 t1 r1 w1 status.ReadFault limits_are (session, below, rose, left) =
    inr (inl (record {
      limits = limits;
      limits_are = limits_are;
      session = session;
      in_range = below;
      rose = rose;
      left = left;
      others = others_left run session t0 t1 below left;
      told = inl (refl, refl);
    }))
unopened Ran run limits t0 r0 w0 t1 r1 w1 status.WriteFault limits_are
    (session, below, rose, left) =
    inr (inr (inl (record {
      limits = limits;
      limits_are = limits_are;
      session = session;
      in_range = below;
      rose = rose;
      left = left;
      others = others_left run session t0 t1 below left;
      told = inl (refl, refl);
    })))
unopened Ran run limits t0 r0 w0 t1 r1 w1 status.Memory limits_are fault = inl refl
unopened Ran run limits t0 r0 w0 t1 r1 w1 status.Done limits_are (session, below, fault, left) =
    absurd fault
unopened Ran run limits t0 r0 w0 t1 r1 w1 status.Usage limits_are (session, below, fault, left) =
    absurd fault
unopened Ran run limits t0 r0 w0 t1 r1 w1 (status.Limits why) limits_are
    (session, below, fault, left) = absurd fault
unopened Ran run limits t0 r0 w0 t1 r1 w1 status.CutShort limits_are
    (session, below, fault, left) = absurd fault
unopened Ran run limits t0 r0 w0 t1 r1 w1 status.Unlawful limits_are
    (session, below, fault, left) = absurd fault

-- the limits that count for so many sessions, by equal counts
pub counted_as : (told : Option Texts) (name : List ℕ) (count sessions : ℕ) (limits : Limits)
    → count ≡ sessions → HasCounted told name count limits → HasCounted told name sessions limits
counted_as told name count sessions limits same counted =
    subst (λ (n : ℕ). HasCounted told name n limits) same counted

-- sessions of which one wanted memory stand at 8, and any others did what their run says
pub memory_or_run : {R : Type 0} (ends : List End) (refused : Bool) (n : ℕ) (wanting : Bool)
    → list_any is_memory ends ≡ wanting → n ≡ standing_of ends refused
    → (list_any is_memory ends ≡ false → R) → (n ≡ 8) ⊎ R
memory_or_run ends refused n true is stands run = inl (stands ∙ at_memory ends refused is) where
  at_memory : (all : List End) (r : Bool) → list_any is_memory all ≡ true → standing_of all r ≡ 8
  at_memory all r wants = rw wants refl
memory_or_run ends refused n false is stands run = inr (run is)

-- what sessions did after calls that changed no text they did from before them
module _ (Input : ℕ → InputRule) (Early : ℕ → EarlyRule)
    (law : (session : ℕ) → IsByCauses (Early session)) (run : RunWords) (t : Option Texts)
    (r0 w0 r1 w1 : List ℕ → ℕ) (t2 : Option Texts) (r2 w2 : List ℕ → ℕ)
    (text : List ℕ) (reads : NeverFalls r0 r1) (writes : NeverFalls w0 w1) where
  stops_earlier : (n : ℕ) (bytes : List ℕ) (own : List Act) (end : End)
      → StopsText (Early n) (shown t r1 w1 []) (shown t2 r2 w2 text) run n bytes own end
      → StopsText (Early n) (shown t r0 w0 []) (shown t2 r2 w2 text) run n bytes own end
  stops_earlier n bytes own end stops =
      stops_from (Input n) (Early n) (law n) (shown t r1 w1 []) (shown t r0 w0 [])
      (shown t2 r2 w2 text) run n bytes own end (λ name. rose_from _ _ _ (writes name)) stops

  end_earlier : (n : ℕ) (bytes : List ℕ) (own : List Act) (end : End)
      → EndHolds (Input n) (Early n) (shown t r1 w1 []) (shown t2 r2 w2 text) run n bytes own end
      → EndHolds (Input n) (Early n) (shown t r0 w0 []) (shown t2 r2 w2 text) run n bytes own end
  end_earlier n bytes own ending.ReadFault (rose, ends, stops) = (
    rose_from _ _ _ (reads _) rose,
    ends,
    stops_earlier n bytes own ending.ReadFault stops,
  )
  end_earlier n bytes own ending.WriteFault (inl rose, ends, stops) = (
    inl (rose_from _ _ _ (writes _) rose),
    ends,
    stops_earlier n bytes own ending.WriteFault stops,
  )
  end_earlier n bytes own ending.WriteFault (inr rose, ends, stops) = (
    inr (rose_from _ _ _ (writes _) rose),
    ends,
    stops_earlier n bytes own ending.WriteFault stops,
  )
  end_earlier n bytes own ending.Memory holds = holds
  end_earlier n bytes own ending.Whole holds = holds
  end_earlier n bytes own (ending.Cut place) holds = holds
  end_earlier n bytes own (ending.Broken place) holds = holds
  end_earlier n bytes own (ending.TooLong place) holds = holds

  journal_earlier : (acts : List (List Act)) (lines : List (List Line)) (refused : Bool)
      → HasJournal (shown t r1 w1 []) (shown t2 r2 w2 text) run acts lines refused
      → HasJournal (shown t r0 w0 []) (shown t2 r2 w2 text) run acts lines refused
  journal_earlier acts lines false journal = journal
  journal_earlier acts lines true (rose, front) =
      (rose_from _ _ _ (writes (journal_name run.out)) rose, front)

  pub ran_earlier : (inputs : List (List ℕ)) (acts : List (List Act)) (ends : List End)
      (lines : List (List Line)) (refused : Bool)
      → HaveRan Input Early run (shown t r1 w1 []) (shown t2 r2 w2 text) inputs acts ends lines
      refused
      → HaveRan Input Early run (shown t r0 w0 []) (shown t2 r2 w2 text) inputs acts ends lines
      refused
  ran_earlier inputs acts ends lines refused ran = record {
    remembered = ran.remembered;
    inputs_are = ran.inputs_are;
    input_count = ran.input_count;
    act_count = ran.act_count;
    end_count = ran.end_count;
    each = λ session bytes own end is_bytes is_own is_end.
        end_earlier session bytes own end (ran.each session bytes own end is_bytes is_own is_end);
    journal = journal_earlier acts lines refused ran.journal;
    others = ran.others;
    tells = ran.tells;
  }

-- the ways behind calls that changed no text, where that holds of the sessions' own end
module _ (Ran : Outcome) (run : RunWords) (t : Option Texts)
    (r0 w0 r1 w1 : List ℕ → ℕ) (t2 : Option Texts) (r2 w2 : List ℕ → ℕ)
    (text : List ℕ) (reads : NeverFalls r0 r1) (writes : NeverFalls w0 w1) (n : ℕ)
    (ran : Ran (shown t r1 w1 []) (shown t2 r2 w2 text) n
    → Ran (shown t r0 w0 []) (shown t2 r2 w2 text) n) where
  sessions_earlier : SessionsWent Ran run (shown t r1 w1 []) (shown t2 r2 w2 text) n
      → SessionsWent Ran run (shown t r0 w0 []) (shown t2 r2 w2 text) n
  sessions_earlier (inl h) = inl (record {
    limits = h.limits;
    limits_are = h.limits_are;
    session = h.session;
    in_range = h.in_range;
    rose = rose_from _ _ _ (reads _) h.rose;
    left = h.left;
    others = h.others;
    told = h.told;
  })
  sessions_earlier (inr (inl h)) = inr (inl (record {
    limits = h.limits;
    limits_are = h.limits_are;
    session = h.session;
    in_range = h.in_range;
    rose = elim h.rose [
      | inl rose ↦ inl (rose_from _ _ _ (writes _) rose)
      | inr rose ↦ inr (rose_from _ _ _ (writes _) rose)
    ];
    left = h.left;
    others = h.others;
    told = h.told;
  }))
  sessions_earlier (inr (inr h)) = inr (inr (ran h))

-- the same behind calls that changed no text
pub went_behind : (Ran : Outcome) (run : RunWords) (t0 t1 : Option Texts)
    (r0 w0 r1 w1 : List ℕ → ℕ) (t2 : Option Texts) (r2 w2 : List ℕ → ℕ)
    (text : List ℕ) (n : ℕ) → Went (silent t0 r0 w0) (silent t1 r1 w1) → t1 ≡ t0
    → (NeverFalls r0 r1 → NeverFalls w0 w1 → Ran (shown t0 r1 w1 []) (shown t2 r2 w2 text) n
    → Ran (shown t0 r0 w0 []) (shown t2 r2 w2 text) n)
    → (n ≡ 8) ⊎ SessionsWent Ran run (shown t1 r1 w1 []) (shown t2 r2 w2 text) n
    → (n ≡ 8) ⊎ WordsWent Ran run (shown t0 r0 w0 []) (shown t2 r2 w2 text) n
went_behind Ran run t0 t1 r0 w0 r1 w1 t2 r2 w2 text n went same ran (inl memory) = inl memory
went_behind Ran run t0 t1 r0 w0 r1 w1 t2 r2 w2 text n went same ran (inr did) =
    inr (inr (inr (sessions_earlier Ran run t0 r0 w0 r1 w1 t2 r2 w2 text went.read went.written n
    (ran went.read went.written)
    (subst (λ (t : Option Texts). SessionsWent Ran run (shown t r1 w1 []) (shown t2 r2 w2 text) n)
    same did))))

-- what sessions did, beside another standard output
module _ (Input : ℕ → InputRule) (Early : ℕ → EarlyRule) (run : RunWords) (t0 : Option Texts)
    (r0 w0 : List ℕ → ℕ) (t1 : Option Texts) (r1 w1 : List ℕ → ℕ) (text : List ℕ)
    (held held_after : Option (List ℕ)) (faults faults_after : ℕ) where
  end_beside : (session : ℕ) (bytes : List ℕ) (own : List Act) (end : End)
      → EndHolds (Input session) (Early session) (shown t0 r0 w0 []) (shown t1 r1 w1 text) run
      session bytes own end
      → EndHolds (Input session) (Early session) (beside t0 r0 w0 held faults)
      (beside t1 r1 w1 held_after faults_after) run session bytes own end
  end_beside session bytes own ending.ReadFault holds = holds
  end_beside session bytes own ending.WriteFault holds = holds
  end_beside session bytes own ending.Memory holds = holds
  end_beside session bytes own ending.Whole holds = holds
  end_beside session bytes own (ending.Cut place) holds = holds
  end_beside session bytes own (ending.Broken place) holds = holds
  end_beside session bytes own (ending.TooLong place) holds = holds

  journal_beside : (acts : List (List Act)) (lines : List (List Line)) (refused : Bool)
      → HasJournal (shown t0 r0 w0 []) (shown t1 r1 w1 text) run acts lines refused
      → HasJournal (beside t0 r0 w0 held faults) (beside t1 r1 w1 held_after faults_after) run acts
      lines refused
  journal_beside acts lines false journal = journal
  journal_beside acts lines true journal = journal

  pub ran_beside : (inputs : List (List ℕ)) (acts : List (List Act)) (ends : List End)
      (lines : List (List Line)) (refused : Bool)
      → HaveRan Input Early run (shown t0 r0 w0 []) (shown t1 r1 w1 text) inputs acts ends lines
      refused
      → HaveRan Input Early run (beside t0 r0 w0 held faults)
      (beside t1 r1 w1 held_after faults_after) inputs acts ends lines refused
  ran_beside inputs acts ends lines refused ran = record {
    remembered = ran.remembered;
    inputs_are = ran.inputs_are;
    input_count = ran.input_count;
    act_count = ran.act_count;
    end_count = ran.end_count;
    each = λ session bytes own end is_bytes is_own is_end.
        end_beside session bytes own end (ran.each session bytes own end is_bytes is_own is_end);
    journal = journal_beside acts lines refused ran.journal;
    others = ran.others;
    tells = ran.tells;
  }

-- what an answer says is told
pub told_so : (text : List ℕ) (n : ℕ) (held held_after : Option (List ℕ))
    (faults faults_after answer : ℕ) → IsTold held held_after faults faults_after text n answer
    → (say : List ℕ) (standing : ℕ) → IsTold (Some []) (Some text) 0 0 say standing n
    → IsTold held held_after faults faults_after say standing answer
told_so text n held held_after faults faults_after answer told say standing (inl is) =
    subst (λ (m : ℕ). IsTold held held_after faults faults_after say m answer) is.0
    (subst (λ (s : List ℕ). IsTold held held_after faults faults_after s n answer) is.1 told)
told_so text n held held_after faults faults_after answer told say standing (inr faulty) =
    absurd (zero_stands faulty.1)

module _ (Ran : Outcome) (run : RunWords) (t0 : Option Texts) (r0 w0 : List ℕ → ℕ)
    (t1 : Option Texts) (r1 w1 : List ℕ → ℕ) (text : List ℕ) (n : ℕ)
    (held held_after : Option (List ℕ)) (faults faults_after answer : ℕ)
    (ran : IsTold held held_after faults faults_after text n answer
    → Ran (shown t0 r0 w0 []) (shown t1 r1 w1 text) n
    → Ran (beside t0 r0 w0 held faults) (beside t1 r1 w1 held_after faults_after) answer) where
  went_told : IsTold held held_after faults faults_after text n answer
      → WordsWent Ran run (shown t0 r0 w0 []) (shown t1 r1 w1 text) n
      → WordsWent Ran run (beside t0 r0 w0 held faults) (beside t1 r1 w1 held_after faults_after)
      answer
  went_told told (inl h) = inl (record {
    rose = h.rose;
    texts = h.texts;
    told = told_so text n held held_after faults faults_after answer told _ _ h.told;
  })
  went_told told (inr (inl h)) = inr (inl (record {
    why = h.why;
    refused = h.refused;
    texts = h.texts;
    told = told_so text n held held_after faults faults_after answer told _ _ h.told;
  }))
  went_told told (inr (inr (inl h))) = inr (inr (inl (record {
    limits = h.limits;
    limits_are = h.limits_are;
    session = h.session;
    in_range = h.in_range;
    rose = h.rose;
    left = h.left;
    others = h.others;
    told = told_so text n held held_after faults faults_after answer told _ _ h.told;
  })))
  went_told told (inr (inr (inr (inl h)))) = inr (inr (inr (inl (record {
    limits = h.limits;
    limits_are = h.limits_are;
    session = h.session;
    in_range = h.in_range;
    rose = h.rose;
    left = h.left;
    others = h.others;
    told = told_so text n held held_after faults faults_after answer told _ _ h.told;
  }))))
  went_told told (inr (inr (inr (inr did)))) = inr (inr (inr (inr (ran told did))))

  -- what a command did and what was told of it
  pub words_told : n ≢ 8
      → (n ≡ 8) ⊎ WordsWent Ran run (shown t0 r0 w0 []) (shown t1 r1 w1 text) n
      → (answer ≡ 8) ⊎ IsTold held held_after faults faults_after text n answer
      → (answer ≡ 8) ⊎ WordsWent Ran run (beside t0 r0 w0 held faults)
      (beside t1 r1 w1 held_after faults_after) answer
  words_told memory (inl is) told = absurd (memory is)
  words_told memory (inr did) (inl is) = inl is
  words_told memory (inr did) (inr told) = inr (went_told told did)
