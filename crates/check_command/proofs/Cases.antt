-- The case of sources that were opened is that of the files at their names.
use Rattle.std.proofs.Common.{◌≡◌, ℕ, zero, suc, ◌+◌, ◌<◌, List, [], ◌∷◌, ◌++◌, length, map}
use Rattle.std.proofs.Common.{get_or, refl, sym, ap, ◌∙◌, subst, arith, inl, inr, length-append}
use Rattle.std.proofs.Common.{true, false}
use Rattle.std.proofs.lemmas.List.{length-map}
use Rattle.std.proofs.lemmas.Option.{slice_get_within, slice_get-get_or}
use Rattle.std.specs.Prelude.{Option, Some, None, IfSome, ◌⊎◌, slice_get}
use Rattle.std.specs.Option.{is_some}
use Rattle.gate_ports.specs.Names.{Texts, MeansName}
use Rattle.gate_files.specs.Words.{CheckWords}
use Rattle.gate_files.proofs.Lists.{mapped_at, there_is}
use Rattle.limit_table.specs.declared.limits.Limits.{Limits}
use Rattle.risk_board.specs.declared.hand.Line.{Line}
use Rattle.risk_journal.specs.declared.acts.Act.{Act}
use Rattle.screen_kit.specs.Screens.{ScreenValue}
use Rattle.journal_check.specs.Answers.{AreBack, AreTold}
use Rattle.journal_check.specs.Faults.{case_of, told, armed_in, IsFirstFault, IsLawful, IsRead}
use Rattle.journal_check.specs.Judging.{StopsAtSource}
use Rattle.journal_check.specs.SessionActs.{IsOwnSession}
use Rattle.journal_check.specs.Worth.{IsWorth}
use Rattle.journal_check.specs.declared.judging.TheConstants.{JOURNAL_MOST}
use Rattle.check_command.specs.Inputs.{name_in, AreNew, AreOwn}
use Rattle.check_command.specs.Verdicts.{IsVerdict, IsCaseAt, IsRightBefore}
use Rattle.check_command.specs.Verdicts.Verdict.{Lawful, Faulty}
use Rattle.check_command.proofs.Sources.{there}

-- what sources have left is the text of each name
lefts_are : {S : Type 0} (left : S → Option (List ℕ)) (texts : Texts) (names : List (List ℕ))
    (sources : List S) → length sources ≡ length names
    → ((place : ℕ) (one : S) → slice_get sources place ≡ Some one
    → left one ≡ texts (name_in names place))
    → map left sources ≡ map texts names
lefts_are left texts [] [] many each = refl
lefts_are left texts (name ∷ names) [] many each = absurd (omega (arith, many))
lefts_are left texts [] (one ∷ sources) many each = absurd (omega (arith, many))
lefts_are left texts (name ∷ names) (one ∷ sources) many each =
    ap (λ (o : Option (List ℕ)). o ∷ map left sources) (each 0 one refl)
    ∙ ap (λ (os : List (Option (List ℕ))). texts name ∷ os)
    (lefts_are left texts names sources (omega (arith, many))
    (λ place other at. each (suc place) other at))

-- bytes that are all told
tells_all : (lefts : List (Option (List ℕ)))
    → ((place : ℕ) (o : Option (List ℕ)) → slice_get lefts place ≡ Some o → is_some o ≡ true)
    → map (λ (bytes : List ℕ). Some bytes) (map told lefts) ≡ lefts
tells_all [] each = refl
tells_all (None ∷ lefts) each = let none : false ≡ true = each 0 None refl in absurd cc
tells_all (Some bytes ∷ lefts) each =
    ap (λ (os : List (Option (List ℕ))). Some bytes ∷ os)
    (tells_all lefts (λ place o at. each (suc place) o at))

-- what is said of bytes that are told is said of those of the case
in_case : (lefts : List (Option (List ℕ))) (place : ℕ) (P : List ℕ → Type 0)
    → is_some (get_or lefts place None) ≡ true → IfSome (get_or lefts place None) P
    → P (get_or (map told lefts) place [])
in_case [] place P some is = absurd cc
in_case (None ∷ lefts) zero P some is = absurd cc
in_case (Some bytes ∷ lefts) zero P some is = is
in_case (o ∷ lefts) (suc place) P some is = in_case lefts place P some is

-- the bytes are the whole text, or there are more of them than are judged
abbrev pub IsFrontOf : List ℕ → List ℕ → Type 0
IsFrontOf bytes text =
    (text ≡ bytes) ⊎ ((length bytes ≡ JOURNAL_MOST + 1) × (rest : List ℕ) × (text ≡ bytes ++ rest))

module _ (limits : Limits) (lefts : List (Option (List ℕ))) (sets : List (List ScreenValue))
    (bytes text : List ℕ) where
  long_fault : (rest : List ℕ) (kind row : ℕ) → JOURNAL_MOST < length bytes → text ≡ bytes ++ rest
      → IsFirstFault (case_of limits bytes lefts sets) kind row
      → IsFirstFault (case_of limits text lefts sets) kind row
  long_fault rest kind row long is (inl (kind_is, inl (more, row_is))) = inl (
    kind_is,
    inl (omega (arith, long, ap length is, length-append bytes rest), row_is),
  )
  long_fault rest kind row long is (inl (kind_is, inr (few, bad))) =
      absurd (omega (arith, long, few))
  long_fault rest kind row long is (inr journal) =
      let few = journal.read.few in absurd (omega (arith, long, few))

  long_read : (acts : List (List Act)) (lines : List (List Line)) → JOURNAL_MOST < length bytes
      → IsRead bytes acts lines → ⊥
  long_read acts lines long read = let few = read.few in omega (arith, long, few)

  -- the verdict on the bytes that were read is that on the whole text
  pub lawful_whole : IsFrontOf bytes text → IsLawful (case_of limits bytes lefts sets)
      → IsWorth (case_of limits bytes lefts sets)
      → IsVerdict (case_of limits text lefts sets) Lawful
  lawful_whole (inl same) lawful worth =
      subst (λ (t : List ℕ). IsVerdict (case_of limits t lefts sets) Lawful) (sym same)
      (lawful, worth)
  lawful_whole (inr (long, rest, is)) lawful worth =
      absurd (long_read lawful.acts lawful.lines (omega (arith, long)) lawful.read)

  pub fault_whole : (kind row : ℕ) → IsFrontOf bytes text
      → IsFirstFault (case_of limits bytes lefts sets) kind row
      → IsVerdict (case_of limits text lefts sets) (Faulty kind row)
  fault_whole kind row (inl same) fault =
      subst (λ (t : List ℕ). IsFirstFault (case_of limits t lefts sets) kind row) (sym same) fault
  fault_whole kind row (inr (long, rest, is)) fault =
      long_fault rest kind row (omega (arith, long)) is fault

module _ {S : Type 0} (left name : S → Option (List ℕ)) (faults : S → ℕ) (names : List (List ℕ))
    (sources now : List S) where
  -- sources that come back may be given back
  pub back_own : (told : Option Texts) → AreNew left name faults told names sources
      → AreBack faults name sources now → AreOwn name told names now
  back_own told new back = record {
    each = λ place other at.
        let inside : place < length sources =
        omega (arith, slice_get_within now place other at, back.count) in
        let one = there_is sources place inside in
        let source = new.each place one.0 one.1 in
        let same = (back.each place one.0 other one.1 at).name_is in
        record {
          means = subst (λ (o : Option (List ℕ)). MeansName o (name_in names place)) (sym same)
              source.means;
          there = there told _ _ source.opened;
        };
  }

  module _ (texts : Texts) (new : AreNew left name faults (Some texts) names sources) where
    some_left : (place : ℕ) (one : S) → slice_get sources place ≡ Some one
        → is_some (left one) ≡ true
    some_left place one at =
        let opened = (new.each place one at).opened in
        subst (λ (o : Option (List ℕ)). is_some o ≡ true) (sym opened.1) opened.0

    each_some : (place : ℕ) (o : Option (List ℕ)) → slice_get (map left sources) place ≡ Some o
        → is_some o ≡ true
    each_some place o at =
        let one = mapped_at left sources place o at in
        subst (λ (l : Option (List ℕ)). is_some l ≡ true) one.2 (some_left place one.0 one.1)

    pub all_told : AreTold (map left sources)
    all_told place d inside =
        each_some place (get_or (map left sources) place d)
        (slice_get-get_or (map left sources) place d inside)

    pub case_at : (check : CheckWords) (limits : Limits) (sets : List (List ScreenValue))
        (text : List ℕ) → names ≡ check.sessions → length sources ≡ length names
        → texts check.journal ≡ Some text
        → IsCaseAt texts check limits sets (case_of limits text (map left sources) sets)
    case_at check limits sets text names_are many is = record {
      limits_are = refl;
      journal_is = is;
      sessions_are = ap (map texts) (sym names_are)
          ∙ sym (lefts_are left texts names sources many
          (λ place one at. ((new.each place one at).opened).1))
          ∙ sym (tells_all (map left sources) each_some);
      screens_are = refl;
    }

    pub right_before : (limits : Limits) (sets : List (List ScreenValue)) (bytes text : List ℕ)
        (stops : StopsAtSource left faults limits bytes sets sources now) → IsFrontOf bytes text
        → IsRightBefore (case_of limits text (map left sources) sets) stops.behind.session
    right_before limits sets bytes text stops (inr (long, rest, is)) =
        absurd (long_read limits (map left sources) sets bytes text stops.acts stops.lines
        (omega (arith, long)) stops.read)
    right_before limits sets bytes text stops (inl same) =
        subst (λ (t : List ℕ). IsRightBefore (case_of limits t (map left sources) sets)
        stops.behind.session) (sym same)
        (record {
          acts = stops.acts;
          lines = stops.lines;
          read = stops.read;
          none = stops.none;
          earlier = λ other own less at.
              let inside : other < length (map left sources) = omega (
                arith,
                less,
                slice_get_within sources stops.behind.session stops.behind.rose.one
                    stops.behind.rose.at,
                length-map sources left,
              ) in
              in_case (map left sources) other
              (λ (b : List ℕ). IsOwnSession limits
              (armed_in (case_of limits bytes (map left sources) sets) other) b own)
              (each_some other (get_or (map left sources) other None)
              (slice_get-get_or (map left sources) other None inside))
              (stops.behind.earlier other own less at);
        })
