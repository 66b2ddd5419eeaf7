-- In a legal history what is admitted is what the sessions' own events admit.
use Rattle.std.proofs.Common.{◌≡◌, ℕ, ◌+◌, List, [], ◌∷◌, length, map, fold, refl, ap, sym, ◌∙◌}
use Rattle.std.specs.Prelude.{sum_by}
use Rattle.std.proofs.lemmas.List.Sums.{sum_by-cons}
use Rattle.risk_board.specs.declared.hand.Line.{Line}
use Rattle.risk_board.specs.History.{Event, IsLegal}
use Rattle.admit_core.specs.Admitted.{Standing, nothing, after_post, after_read, after_event}
use Rattle.admit_core.specs.Admitted.{own_admitted, AdmitsOwn}
use Rattle.admit_core.proofs.OwnSteps.{steps_are_own}
use Rattle.admit_core.proofs.OwnStandings.{ends, stands_after, all_end}

sum_by-own : (limit : ℕ) (events : List (List Event))
    → sum_by (λ (standing : Standing). standing.admitted)
    (map (fold (after_event limit) nothing) events)
    ≡ sum_by (own_admitted limit) events
sum_by-own limit [] = refl
sum_by-own limit (own ∷ events) =
    sum_by-cons (λ (standing : Standing). standing.admitted)
    (fold (after_event limit) nothing own) (map (fold (after_event limit) nothing) events)
    ∙ ap (λ n. own_admitted limit own + n) (sum_by-own limit events)
    ∙ sym (sum_by-cons (own_admitted limit) own events)

pub admits_own : (whole : List ℕ → ℕ) (unit limit components : ℕ) (lines : List Line)
    (events : List (List Event)) → IsLegal whole unit components lines events
    → AdmitsOwn limit lines events
admits_own whole unit limit components lines events legal = record {
  steps = steps_are_own whole unit components lines events legal;
  front = stands_after after_post (after_read limit) whole unit components lines events legal;
  whole = ends after_post (after_read limit) whole unit components lines events legal;
  total = ap (sum_by (λ (standing : Standing). standing.admitted))
      (all_end after_post (after_read limit) whole unit components lines events legal)
      ∙ sum_by-own limit events;
}
