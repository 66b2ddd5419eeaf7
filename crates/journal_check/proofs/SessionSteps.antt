-- One session more is alike, or differs.
use Rattle.std.proofs.Common.{◌≡◌, ◌≢◌, ℕ, ◌+◌, ◌<◌, List, [], arith, ⊎_elim, subst, sym, get_or}
use Rattle.std.specs.Prelude.{slice_get, Option, Some, None, IfSome}
use Rattle.limit_table.specs.Trees.{LimitsValue}
use Rattle.risk_journal.specs.declared.acts.Act.{Act}
use Rattle.screen_kit.specs.Screens.{ScreenValue}
use Rattle.session_engine.specs.Session.{armed_for}
use Rattle.journal_check.specs.SessionActs.{IsOwnSession, DiffersAt}
use Rattle.journal_check.specs.Sessions.{IsAlike}
use Rattle.journal_check.proofs.Cases.{same_or}
use Rattle.journal_check.proofs.FirstActs.{one_own}

-- what holds of the first sessions and of one more
pub one_more : (P : ℕ → List Act → Type 0) (acts : List (List Act)) (count : ℕ) (own : List Act)
    → slice_get acts count ≡ Some own
    → ((session : ℕ) (did : List Act) → session < count → slice_get acts session ≡ Some did → P session did)
    → P count own
    → (session : ℕ) (did : List Act) → session < count + 1 → slice_get acts session ≡ Some did → P session did
one_more P acts count own at before here session did less also = ⊎_elim
    (λ (same : session ≡ count).
    let is : own ≡ did = one_own acts count own did at
    (subst (λ (s : ℕ). slice_get acts s ≡ Some did) same also) in
    subst (λ (s : ℕ). P s did) (sym same) (subst (P count) is here))
    (λ (apart : session ≢ count). before session did (omega (arith, less, apart)) also)
    (same_or session count)

module _ (limits : LimitsValue) (left : List (Option (List ℕ))) (screens : List (List ScreenValue))
    (session : ℕ) (own : List Act) (one : Option (List ℕ)) (set : List ScreenValue)
    (first : get_or left session None ≡ one) (second : get_or screens session [] ≡ set) where
  pub alike_as : IfSome one (λ bytes. IsOwnSession limits (armed_for limits set) bytes own)
      → IsAlike limits left screens session own
  alike_as is =
      subst (λ (s : List ScreenValue). IfSome (get_or left session None) (λ bytes.
      IsOwnSession limits (armed_for limits s) bytes own)) (sym second)
      (subst (λ (o : Option (List ℕ)). IfSome o (λ bytes.
      IsOwnSession limits (armed_for limits set) bytes own)) (sym first) is)

  pub apart_as : (index : ℕ)
      → IfSome one (λ bytes. DiffersAt limits (armed_for limits set) bytes own index)
      → IfSome (get_or left session None) (λ bytes.
      DiffersAt limits (armed_for limits (get_or screens session [])) bytes own index)
  apart_as index is =
      subst (λ (s : List ScreenValue). IfSome (get_or left session None) (λ bytes.
      DiffersAt limits (armed_for limits s) bytes own index)) (sym second)
      (subst (λ (o : Option (List ℕ)). IfSome o (λ bytes.
      DiffersAt limits (armed_for limits set) bytes own index)) (sym first) is)
