-- The ways of a check, as its stages come one behind another.
use Rattle.std.proofs.Common.{◌≡◌, ℕ, ◌+◌, ◌≤◌, List, [], ◌∷◌, length, map, refl, sym, ap}
use Rattle.std.proofs.Common.{◌∙◌, subst}
use Rattle.std.proofs.Common.{arith, inl, inr, Bool, true, false, ◌&&◌, String, Global}
use Rattle.std.proofs.Common.{string_bytes}
use Rattle.std.proofs.lemmas.Bool.Decides.{nat_tests}
use Rattle.std.proofs.lemmas.List.{length-map}
use Rattle.std.proofs.lemmas.Option.{slice_get_within}
use Rattle.std.specs.Prelude.{Option, Some, None, IfSome, IsTrue, ◌⊎◌, nat_le}
use Rattle.std.specs.List.{list_all}
use Rattle.gate_ports.specs.Faults.{NeverFalls}
use Rattle.gate_ports.specs.Names.{Texts, IsThere}
use Rattle.gate_files.specs.declared.status.Answer.{Answer}
use Rattle.gate_files.specs.declared.status.Status.{Status}
use Rattle.gate_files.specs.declared.status.Status.TheVariants as status
use Rattle.gate_files.specs.Ports.{PortsValue}
use Rattle.gate_files.specs.Stages.{HasFront, HasLimitsFault, IsUnread, Went}
use Rattle.gate_files.specs.Statuses.{number_of, told_text, answer_number, answer_text}
use Rattle.gate_files.specs.Stops.{HasCounted, HasLimits}
use Rattle.gate_files.specs.Words.{CheckWords, is_check, is_word, are_distinct, session_most}
use Rattle.gate_files.proofs.Chains.{rose_from, rose_is_some}
use Rattle.limit_table.specs.Counted.{counted_for}
use Rattle.limit_table.specs.declared.limits.Limits.{Limits}
use Rattle.screen_kit.specs.Screens.{ScreenValue}
use Rattle.journal_check.specs.Answers.{AreTold}
use Rattle.journal_check.specs.Faults.{Case, case_of, IsFirstFault}
use Rattle.journal_check.specs.Judging.{IsAnswerTo, StopsAtSource}
use Rattle.journal_check.specs.declared.judging.Checked.{Checked}
use Rattle.journal_check.specs.declared.judging.Checked.TheVariants as checked
use Rattle.journal_check.specs.declared.judging.TheConstants.{JOURNAL_MOST}
use Rattle.check_command.specs.Files.{AreRead}
use Rattle.check_command.specs.Gate.{FilesStopped, FilesJudged, CheckWent}
use Rattle.check_command.specs.Inputs.{name_in, AreNew, AreGivenBack, HasUnopened}
use Rattle.check_command.specs.Verdicts.{IsVerdict, IsCaseAt, IsRightBefore, IsAnswerFor}
use Rattle.check_command.specs.Verdicts.Verdict.{Lawful, Faulty}
use Rattle.check_command.proofs.Cases.{all_told, case_at, lawful_whole, fault_whole, right_before}

-- a folder beside a standard output that got this text
abbrev pub shown : Option Texts → (List ℕ → ℕ) → (List ℕ → ℕ) → List ℕ → PortsValue
shown texts reads writes text = record {
  texts = texts;
  read_faults = reads;
  write_faults = writes;
  held = Some text;
  out_faults = 0;
}

-- a folder beside a standard output that tells nothing
abbrev pub silent : Option Texts → (List ℕ → ℕ) → (List ℕ → ℕ) → PortsValue
silent texts reads writes = record {
  texts = texts;
  read_faults = reads;
  write_faults = writes;
  held = None;
  out_faults = 0;
}

second_holds : (a b c d : Bool) → IsTrue (a && b && c && d) → IsTrue b
second_holds true true c d holds = refl
second_holds true false c d holds = absurd cc
second_holds false b c d holds = absurd cc

third_holds : (a b c d : Bool) → IsTrue (a && b && c && d) → IsTrue c
third_holds true true true d holds = refl
third_holds true true false d holds = absurd cc
third_holds true false c d holds = absurd cc
third_holds false b c d holds = absurd cc

le_of_test : (m n : ℕ) → IsTrue (nat_le m n) → m ≤ n
le_of_test m n test = grind (arith, nat_tests)

module _ (check : CheckWords) (holds : IsTrue (is_check check)) where
  abbrev count : ℕ
  count = length check.sessions

  -- a check has a session
  pub some_session : 1 ≤ count
  some_session = le_of_test 1 count
      (second_holds (list_all is_word (check.limits ∷ check.journal ∷ check.sessions))
      (nat_le 1 count) (nat_le count session_most) (are_distinct check.sessions) holds)

  -- and no more than the most
  pub few_sessions : count ≤ session_most
  few_sessions = le_of_test count session_most
      (third_holds (list_all is_word (check.limits ∷ check.journal ∷ check.sessions))
      (nat_le 1 count) (nat_le count session_most) (are_distinct check.sessions) holds)

-- the limits that count for the sessions of a check
pub counted : (told : Option Texts) (name : List ℕ) (names : List (String Global))
    (file limits : Limits) → HasLimits told name file → limits ≡ counted_for (length names) file
    → HasCounted told name (length (map string_bytes names)) limits
counted told name names file limits file_is is = record {
  file = file;
  file_is = file_is;
  counted = is ∙ ap (λ (n : ℕ). counted_for n file) (sym (length-map names string_bytes));
}

-- the limit file could not be read, or is refused
pub no_limits : (check : CheckWords) (t0 : Option Texts) (r0 w0 : List ℕ → ℕ) (t1 : Option Texts)
    (r1 w1 : List ℕ → ℕ) (s : Status) → t1 ≡ t0
    → HasLimitsFault (silent t0 r0 w0) (silent t1 r1 w1) check.limits s
    → (number_of s ≡ 8)
    ⊎ FilesStopped check (shown t0 r0 w0 []) (shown t1 r1 w1 (told_text s)) (number_of s)
no_limits check t0 r0 w0 t1 r1 w1 status.ReadFault same rose =
    inr (inl (record { rose = rose; texts = same; told = inl (refl, refl) }))
no_limits check t0 r0 w0 t1 r1 w1 (status.Limits why) same refused =
    inr (inr (inl (record { why = why; refused = refused; texts = same; told = inl (refl, refl) })))
no_limits check t0 r0 w0 t1 r1 w1 status.Memory same fault = inl refl
no_limits check t0 r0 w0 t1 r1 w1 other same fault = absurd fault

-- the journal could not be read
pub no_journal : (check : CheckWords) (limits : Limits) (t0 : Option Texts) (r0 w0 : List ℕ → ℕ)
    (t1 : Option Texts) (r1 w1 : List ℕ → ℕ) (t2 : Option Texts) (r2 w2 : List ℕ → ℕ) (s : Status)
    → HasCounted t0 check.limits (length check.sessions) limits
    → Went (silent t0 r0 w0) (silent t1 r1 w1) → t2 ≡ t0
    → IsUnread (silent t1 r1 w1) (silent t2 r2 w2) check.journal s
    → (number_of s ≡ 8)
    ⊎ FilesStopped check (shown t0 r0 w0 []) (shown t2 r2 w2 (told_text s)) (number_of s)
no_journal check limits t0 r0 w0 t1 r1 w1 t2 r2 w2 status.ReadFault limits_are went same rose =
    inr (inr (inr (record {
      limits = limits;
      limits_are = limits_are;
      rose = rose_from _ _ _ (went.read check.journal) rose;
      texts = same;
      told = inl (refl, refl);
    })))
no_journal check limits t0 r0 w0 t1 r1 w1 t2 r2 w2 status.Memory limits_are went same cause =
    inl refl
no_journal check limits t0 r0 w0 t1 r1 w1 t2 r2 w2 other limits_are went same cause = absurd cause

-- a journal that was read is there
journal_there : (told : Option Texts) (name : List ℕ) (most : ℕ) (bytes : List ℕ)
    → HasFront told name most bytes → IsThere told name
journal_there None name most bytes front = tt
journal_there (Some texts) name most bytes (text, is, fronts) = rw is refl

-- a session could not be opened
pub unopened : (check : CheckWords) (sets : List (List ScreenValue)) (limits : Limits)
    (bytes : List ℕ) (t0 : Option Texts) (r0 w0 : List ℕ → ℕ) (t1 : Option Texts)
    (r1 w1 : List ℕ → ℕ) (s : Status) → AreRead t0 check limits bytes → t1 ≡ t0
    → HasUnopened check.sessions (silent t0 r0 w0) (silent t1 r1 w1) s
    → (number_of s ≡ 8)
    ⊎ FilesJudged check sets (shown t0 r0 w0 []) (shown t1 r1 w1 (told_text s)) (number_of s)
unopened check sets limits bytes t0 r0 w0 t1 r1 w1 status.ReadFault read same un =
    inr (inl (record {
      limits = limits;
      limits_are = read.limits_are;
      journal_is = journal_there t0 check.journal (JOURNAL_MOST + 1) bytes read.journal_is;
      session = un.place;
      in_range = un.in_range;
      rose = un.cause;
      texts = same;
      told = inl (refl, refl);
    }))
unopened check sets limits bytes t0 r0 w0 t1 r1 w1 status.Memory read same un = inl refl
unopened check sets limits bytes t0 r0 w0 t1 r1 w1 other read same un = absurd un.cause

module _ {S : Type 0} (left name : S → Option (List ℕ)) (faults : S → ℕ) (check : CheckWords)
    (sets : List (List ScreenValue)) (limits : Limits) (bytes : List ℕ) (sources now : List S)
    (many : length sources ≡ length check.sessions) where
  -- a yes is the verdict on the files
  yes_at : (told : Option Texts) → AreRead told check limits bytes
      → AreNew left name faults told check.sessions sources
      → IsAnswerTo (case_of limits bytes (map left sources) sets) (map left sources) checked.Yes
      → IfSome told (λ texts. (case : Case) × IsCaseAt texts check limits sets case
      × IsVerdict case Lawful)
  yes_at None read new says = tt
  yes_at (Some texts) read new says =
      let told = all_told left name faults check.sessions sources now texts new in
      let text = read.journal_is.0 in (
        case_of limits text (map left sources) sets,
        case_at left name faults check.sessions sources now texts new check limits sets text refl
            many read.journal_is.1,
        lawful_whole limits (map left sources) sets bytes text read.journal_is.2
            (says.yes refl told) (says.worth refl told),
      )

  -- and so is a no
  no_at : (kind row : ℕ) (told : Option Texts) → AreRead told check limits bytes
      → AreNew left name faults told check.sessions sources
      → ((5 ≤ kind → AreTold (map left sources))
      → IsFirstFault (case_of limits bytes (map left sources) sets) kind row)
      → IfSome told (λ texts. (case : Case) × IsCaseAt texts check limits sets case
      × IsVerdict case (Faulty kind row))
  no_at kind row None read new says = tt
  no_at kind row (Some texts) read new says =
      let told = all_told left name faults check.sessions sources now texts new in
      let text = read.journal_is.0 in (
        case_of limits text (map left sources) sets,
        case_at left name faults check.sessions sources now texts new check limits sets text refl
            many read.journal_is.1,
        fault_whole limits (map left sources) sets bytes text kind row read.journal_is.2
            (says (λ late. told)),
      )

  -- what is known where the source of a session failed
  right_at : (told : Option Texts) (stops : StopsAtSource left faults limits bytes sets sources now)
      → AreRead told check limits bytes → AreNew left name faults told check.sessions sources
      → IfSome told (λ texts. (case : Case) × IsCaseAt texts check limits sets case
      × IsRightBefore case stops.behind.session)
  right_at None stops read new = tt
  right_at (Some texts) stops read new =
      let text = read.journal_is.0 in (
        case_of limits text (map left sources) sets,
        case_at left name faults check.sessions sources now texts new check limits sets text refl
            many read.journal_is.1,
        right_before left name faults check.sessions sources now texts new limits sets bytes text
            stops read.journal_is.2,
      )

  -- the journal was judged, and the sources were given back
  pub judged : (t0 : Option Texts) (r0 w0 : List ℕ → ℕ) (t1 : Option Texts) (r1 w1 : List ℕ → ℕ)
      (t2 : Option Texts) (r2 w2 : List ℕ → ℕ) (said : Checked) (answer : Answer)
      → AreRead t0 check limits bytes → AreNew left name faults t0 check.sessions sources
      → IsAnswerTo (case_of limits bytes (map left sources) sets) (map left sources) said
      → (said ≡ checked.ReadFault → StopsAtSource left faults limits bytes sets sources now)
      → Went (silent t0 r0 w0) (silent t1 r1 w1)
      → AreGivenBack faults check.sessions (silent t1 r1 w1) (silent t2 r2 w2) now → t1 ≡ t0
      → (answer_number answer ≡ 8) ⊎ IsAnswerFor said answer
      → (answer_number answer ≡ 8)
      ⊎ FilesJudged check sets (shown t0 r0 w0 []) (shown t2 r2 w2 (answer_text answer))
      (answer_number answer)
  judged t0 r0 w0 t1 r1 w1 t2 r2 w2 said answer read new says stops went given same (inl memory) =
      inl memory
  judged t0 r0 w0 t1 r1 w1 t2 r2 w2 checked.Yes answer read new says stops went given same
      (inr is) =
      inr (inr (inr (record {
        limits = limits;
        limits_are = read.limits_are;
        verdict = Lawful;
        judged = yes_at t0 read new says;
        texts = given.texts ∙ same;
        told = inl (is.number, is.text);
      })))
  judged t0 r0 w0 t1 r1 w1 t2 r2 w2 (checked.No fault) answer read new says stops went given same
      (inr is) =
      inr (inr (inr (record {
        limits = limits;
        limits_are = read.limits_are;
        verdict = Faulty fault.kind fault.row;
        judged = no_at fault.kind fault.row t0 read new says.no;
        texts = given.texts ∙ same;
        told = inl (is.number, is.text);
      })))
  judged t0 r0 w0 t1 r1 w1 t2 r2 w2 checked.ReadFault answer read new says stops went given same
      (inr is) =
      let failed = stops refl in
      let at = failed.behind.session in
      let rose = failed.behind.rose in
      let fresh = (new.each at rose.one rose.at).fresh in
      inr (inr (inl (record {
        limits = limits;
        limits_are = read.limits_are;
        session = at;
        in_range = omega (arith, slice_get_within sources at rose.one rose.at, many);
        rose = rose_from _ _ _ (went.read (name_in check.sessions at))
            (given.causes at rose.other rose.also (rose_is_some _ _ fresh rose.rose));
        right_before = right_at t0 failed read new;
        texts = given.texts ∙ same;
        told = inl (is.number, is.text);
      })))
  judged t0 r0 w0 t1 r1 w1 t2 r2 w2 checked.Memory answer read new says stops went given same
      (inr is) = inl is.number

module _ (check : CheckWords) (sets : List (List ScreenValue)) (t : Option Texts)
    (r0 w0 r1 w1 : List ℕ → ℕ) (after : PortsValue) (n : ℕ) (reads : NeverFalls r0 r1) where
  -- what was done after calls that changed no text was done from before them
  judged_earlier : FilesJudged check sets (shown t r1 w1 []) after n
      → FilesJudged check sets (shown t r0 w0 []) after n
  judged_earlier (inl h) = inl (record {
    limits = h.limits;
    limits_are = h.limits_are;
    journal_is = h.journal_is;
    session = h.session;
    in_range = h.in_range;
    rose = rose_from _ _ _ (reads _) h.rose;
    texts = h.texts;
    told = h.told;
  })
  judged_earlier (inr (inl h)) = inr (inl (record {
    limits = h.limits;
    limits_are = h.limits_are;
    session = h.session;
    in_range = h.in_range;
    rose = rose_from _ _ _ (reads _) h.rose;
    right_before = h.right_before;
    texts = h.texts;
    told = h.told;
  }))
  judged_earlier (inr (inr h)) = inr (inr (record {
    limits = h.limits;
    limits_are = h.limits_are;
    verdict = h.verdict;
    judged = h.judged;
    texts = h.texts;
    told = h.told;
  }))

-- counts don't depend on what is told
counts_shown : (t0 t1 : Option Texts) (r0 w0 r1 w1 : List ℕ → ℕ) (text : List ℕ)
    → Went (silent t0 r0 w0) (silent t1 r1 w1) → Went (shown t0 r0 w0 []) (shown t1 r1 w1 text)
counts_shown t0 t1 r0 w0 r1 w1 text went =
    record { read = went.read; written = went.written; names = went.names }

-- a check came no further than its files
pub stopped_went : (check : CheckWords) (sets : List (List ScreenValue)) (t0 : Option Texts)
    (r0 w0 : List ℕ → ℕ) (t1 : Option Texts) (r1 w1 : List ℕ → ℕ) (text : List ℕ) (n : ℕ)
    → Went (silent t0 r0 w0) (silent t1 r1 w1)
    → (n ≡ 8) ⊎ FilesStopped check (shown t0 r0 w0 []) (shown t1 r1 w1 text) n
    → (n ≡ 8) ⊎ CheckWent check sets (shown t0 r0 w0 []) (shown t1 r1 w1 text) n
stopped_went check sets t0 r0 w0 t1 r1 w1 text n went (inl memory) = inl memory
stopped_went check sets t0 r0 w0 t1 r1 w1 text n went (inr stopped) =
    inr (record { counts = counts_shown t0 t1 r0 w0 r1 w1 text went; way = inl stopped })

-- a check came further
pub judged_went : (check : CheckWords) (sets : List (List ScreenValue)) (t0 : Option Texts)
    (r0 w0 : List ℕ → ℕ) (t1 : Option Texts) (r1 w1 : List ℕ → ℕ) (t2 : Option Texts)
    (r2 w2 : List ℕ → ℕ) (text : List ℕ) (n : ℕ) → Went (silent t0 r0 w0) (silent t1 r1 w1)
    → t1 ≡ t0 → Went (silent t0 r0 w0) (silent t2 r2 w2)
    → (n ≡ 8) ⊎ FilesJudged check sets (shown t1 r1 w1 []) (shown t2 r2 w2 text) n
    → (n ≡ 8) ⊎ CheckWent check sets (shown t0 r0 w0 []) (shown t2 r2 w2 text) n
judged_went check sets t0 r0 w0 t1 r1 w1 t2 r2 w2 text n went same all (inl memory) = inl memory
judged_went check sets t0 r0 w0 t1 r1 w1 t2 r2 w2 text n went same all (inr did) = inr (record {
  counts = counts_shown t0 t2 r0 w0 r2 w2 text all;
  way = inr (judged_earlier check sets t0 r0 w0 r1 w1 (shown t2 r2 w2 text) n went.read
      (subst (λ (t : Option Texts). FilesJudged check sets (shown t r1 w1 []) (shown t2 r2 w2 text)
      n) same did));
})
