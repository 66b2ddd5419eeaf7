-- The acts of the first sessions against what their sources tell.
use Rattle.std.specs.Prelude.{◌≡◌, ℕ, ◌<◌, List, [], length, map, Option, None, Some, IfSome, slice_get}
use Rattle.std.specs.Prelude.{slice_index_or}
use Rattle.limit_table.specs.Trees.{LimitsValue}
use Rattle.risk_journal.specs.declared.acts.Act.{Act}
use Rattle.screen_kit.specs.Screens.{ScreenValue}
use Rattle.session_engine.specs.Session.{armed_for}
use Rattle.journal_check.specs.Answers.{RoseAt}
use Rattle.journal_check.specs.RowNumbers.{act_row}
use Rattle.journal_check.specs.SessionActs.{IsOwnSession, DiffersAt}

-- the acts of a session are those of its input and of their reads, where its source tells its bytes
abbrev pub IsAlike : LimitsValue → List (Option (List ℕ)) → List (List ScreenValue) → ℕ → List Act
    → Type 0
IsAlike limits left screens session own =
    IfSome (slice_index_or left session None) (λ bytes.
    IsOwnSession limits (armed_for limits (slice_index_or screens session [])) bytes own)

-- so are those of the first so many sessions
abbrev pub AreAlike : LimitsValue → List (Option (List ℕ)) → List (List ScreenValue)
    → List (List Act) → ℕ → Type 0
AreAlike limits left screens acts count =
    (session : ℕ) (own : List Act) → session < count → slice_get acts session ≡ Some own
    → IsAlike limits left screens session own

-- in this row stands the first act that differs, in the first session that has one
pub record IsFirstApart (limits : LimitsValue) (left : List (Option (List ℕ)))
    (screens : List (List ScreenValue)) (acts : List (List Act)) (row : ℕ) : Type 0 where
  pub session : ℕ
  pub index : ℕ
  pub own : List Act
  pub of_session : slice_get acts session ≡ Some own
  pub before : AreAlike limits left screens acts session
  pub differs : IfSome (slice_index_or left session None) (λ bytes.
      DiffersAt limits (armed_for limits (slice_index_or screens session [])) bytes own index)
  pub inside : index < length own
  pub row_is : row ≡ act_row acts session index

-- the source of a session failed, and the acts of each session before it are those of its input
pub record FailsBehind {S : Type 0} (left : S → Option (List ℕ)) (faults : S → ℕ)
    (limits : LimitsValue) (screens : List (List ScreenValue)) (acts : List (List Act))
    (before now : List S) : Type 0 where
  pub session : ℕ
  pub rose : RoseAt faults before now session
  pub earlier : AreAlike limits (map left before) screens acts session
