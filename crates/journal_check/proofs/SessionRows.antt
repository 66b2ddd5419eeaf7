-- The acts of all sessions in order of row, against the inputs that their sources tell.
use Rattle.std.proofs.Common.{◌≡◌, ◌≢◌, ℕ, ◌+◌, ◌<◌, ◌≤◌, List, [], length, take, ap, sym, subst, ◌∙◌}
use Rattle.std.proofs.Common.{arith, ⊎_elim, get_or, refl}
use Rattle.std.specs.Prelude.{slice_get, Option, Some, None, IfSome, IsSome}
use Rattle.std.proofs.lemmas.Bool.{true≢false}
use Rattle.std.proofs.lemmas.List.{get_or-map, take-take}
use Rattle.std.proofs.lemmas.Option.{slice_get_within, get_or_from_slice_get}
use Rattle.limit_table.specs.Trees.{LimitsValue}
use Rattle.risk_journal.specs.ActLists.{reads_of}
use Rattle.risk_journal.specs.declared.acts.Act.{Act}
use Rattle.screen_kit.specs.Screens.{ScreenValue}
use Rattle.session_engine.specs.Session.{armed_for}
use Rattle.journal_check.specs.Answers.{AreTold}
use Rattle.journal_check.specs.Faults.{case_of, told, bytes_in, armed_in, IsSessionRight, IsWrongAct}
use Rattle.journal_check.specs.Firsts.{IsFirstRow}
use Rattle.journal_check.specs.RowNumbers.{count_all}
use Rattle.journal_check.specs.SessionActs.{IsOwnSession, DiffersAt}
use Rattle.journal_check.specs.Sessions.{IsAlike, AreAlike, IsFirstApart}
use Rattle.journal_check.proofs.Cases.{same_or, le_or_lt}
use Rattle.journal_check.proofs.Counts.{count_later}
use Rattle.journal_check.proofs.FirstActs.{one_own}
use Rattle.journal_check.proofs.SessionIsOne.{session_is_one}

some_told : (left : Option (List ℕ)) → IsSome left → left ≡ Some (told left)
some_told (Some bytes) is = refl
some_told None is = absurd (true≢false (sym is))

module _ (limits : LimitsValue) (screens : List ScreenValue) (bytes : List ℕ) (own : List Act) where
  -- acts that are right differ nowhere
  no_difference : IsOwnSession limits screens bytes own → (index : ℕ)
      → ¬ DiffersAt limits screens bytes own index
  no_difference is index differs =
      differs.apart (ap (take (index + 1))
      (session_is_one limits screens bytes (reads_of own) own differs.right is differs.is))

  -- and others differ first at one index
  no_sooner : (index sooner : ℕ) → sooner < index → DiffersAt limits screens bytes own index
      → ¬ DiffersAt limits screens bytes own sooner
  no_sooner index sooner less first other =
      let fits : sooner + 1 ≤ index = omega (arith, less) in
      other.apart
      (sym (take-take (sooner + 1) index own fits) ∙ ap (take (sooner + 1)) first.before
      ∙ take-take (sooner + 1) index first.right fits
      ∙ ap (take (sooner + 1))
      (session_is_one limits screens bytes (reads_of own) first.right other.right first.is other.is))

module _ (limits : LimitsValue) (text : List ℕ) (left : List (Option (List ℕ)))
    (screens : List (List ScreenValue)) (acts : List (List Act)) (are_told : AreTold left)
    (count : length acts ≡ length left) where
  left_is : (session : ℕ) → session < length left
      → get_or left session None ≡ Some (bytes_in (case_of limits text left screens) session)
  left_is session less =
      some_told (get_or left session None) (are_told session None less)
      ∙ ap (λ (bytes : List ℕ). Some bytes) (sym (get_or-map told left session None [] less))

  has_left : (session : ℕ) (own : List Act) → slice_get acts session ≡ Some own
      → session < length left
  has_left session own at = omega (arith, slice_get_within acts session own at, count)

  pub alike_right : (session : ℕ) (own : List Act) → slice_get acts session ≡ Some own
      → IsAlike limits left screens session own
      → IsSessionRight (case_of limits text left screens) session own
  alike_right session own at alike =
      subst (λ (o : Option (List ℕ)). IfSome o (λ bytes. IsOwnSession limits
      (armed_in (case_of limits text left screens) session) bytes own))
      (left_is session (has_left session own at)) alike

  differs_told : (session index : ℕ) (own : List Act) → slice_get acts session ≡ Some own
      → IfSome (get_or left session None) (λ bytes. DiffersAt limits
      (armed_for limits (get_or screens session [])) bytes own index)
      → DiffersAt limits (armed_in (case_of limits text left screens) session)
      (bytes_in (case_of limits text left screens) session) own index
  differs_told session index own at differs =
      subst (λ (o : Option (List ℕ)). IfSome o (λ bytes. DiffersAt limits
      (armed_in (case_of limits text left screens) session) bytes own index))
      (left_is session (has_left session own at)) differs

  alike_apart : (session index : ℕ) (own : List Act) → slice_get acts session ≡ Some own
      → IsAlike limits left screens session own
      → ¬ DiffersAt limits (armed_in (case_of limits text left screens) session)
      (bytes_in (case_of limits text left screens) session) own index
  alike_apart session index own at alike =
      no_difference limits (armed_in (case_of limits text left screens) session)
      (bytes_in (case_of limits text left screens) session) own (alike_right session own at alike) index

  pub none_apart : AreAlike limits left screens acts (length acts)
      → (row : ℕ) → ¬ IsWrongAct (case_of limits text left screens) acts row
  none_apart alike row wrong =
      alike_apart wrong.session wrong.index wrong.own wrong.of_session
      (alike wrong.session wrong.own (slice_get_within acts wrong.session wrong.own wrong.of_session)
      wrong.of_session) wrong.differs

  pub first_apart : (row : ℕ) → IsFirstApart limits left screens acts row
      → IsFirstRow (IsWrongAct (case_of limits text left screens) acts) row
  first_apart row first =
      let here = differs_told first.session first.index first.own first.of_session first.differs in
      record {
        wrong = record {
          session = first.session;
          index = first.index;
          own = first.own;
          of_session = first.of_session;
          differs = here;
          row_is = first.row_is;
        };
        before = λ earlier less other. ⊎_elim
            (λ (same : other.session ≡ first.session).
            let is : other.own ≡ first.own = one_own acts first.session other.own first.own
            (subst (λ (s : ℕ). slice_get acts s ≡ Some other.own) same other.of_session)
            first.of_session in
            let count_is : count_all (take other.session acts) ≡ count_all (take first.session acts) =
            ap (λ s. count_all (take s acts)) same in
            no_sooner limits (armed_in (case_of limits text left screens) first.session)
            (bytes_in (case_of limits text left screens) first.session) first.own first.index
            other.index (omega (arith, less, first.row_is, other.row_is, count_is)) here
            (subst (λ (s : ℕ). DiffersAt limits (armed_in (case_of limits text left screens) s)
            (bytes_in (case_of limits text left screens) s) first.own other.index) same
            (subst (λ (o : List Act). DiffersAt limits
            (armed_in (case_of limits text left screens) other.session)
            (bytes_in (case_of limits text left screens) other.session) o other.index) is
            other.differs)))
            (λ (apart : other.session ≢ first.session). ⊎_elim
            (λ (low : other.session ≤ first.session).
            alike_apart other.session other.index other.own other.of_session
            (first.before other.session other.own (omega (arith, low, apart)) other.of_session)
            other.differs)
            (λ (high : first.session < other.session).
            let long : length (get_or acts first.session []) ≡ length first.own =
            ap length (get_or_from_slice_get acts first.session first.own [] first.of_session) in
            absurd (omega (
              arith,
              count_later acts first.session other.session high,
              long,
              less,
              first.row_is,
              other.row_is,
              first.inside,
            )))
            (le_or_lt other.session first.session))
            (same_or other.session first.session);
      }
