-- What is checked step by step is what stays within the limit at every place.
use Rattle.std.proofs.Common.{◌≡◌, ℕ, ◌≤◌, zero, suc, List, [], ◌∷◌, take, refl, sym, ap, ◌∙◌}
use Rattle.std.proofs.Common.{arith, Bool, true, false, ◌&&◌, fold, replicate}
use Rattle.std.specs.Prelude.{nat_le, ◌↔◌}
use Rattle.std.proofs.lemmas.Bool.Decides.{nat_tests}
use Rattle.std.proofs.lemmas.List.Folds.{sum_by-replicate}
use Rattle.risk_board.specs.declared.hand.Line.{Line}
use Rattle.risk_board.specs.History.{Event}
use Rattle.admit_core.specs.Admitted.{Moment, after_moment, nothing, StaysWithin, moments}
use Rattle.admit_core.specs.Admitted.{Standing as OwnStanding}
use Rattle.tree_check.specs.Reads.{reads_in}
use Rattle.tree_check.specs.Staying.{admitted_by, stays_from, stays_along}
use Rattle.tree_check.proofs.Moments.{moments-reads_in}
use Rattle.tree_check.proofs.Stays.{is_low}

le_from : (a b : ℕ) → nat_le a b ≡ true → a ≤ b
le_from a b is = grind (arith, nat_tests)

le_to : (a b : ℕ) → a ≤ b → nat_le a b ≡ true
le_to a b h = grind (arith, nat_tests)

both_true : (a b : Bool) → (a && b) ≡ true → (a ≡ true) × (b ≡ true)
both_true true true is = (refl, refl)
both_true true false is = absurd cc
both_true false b is = absurd cc

module _ (limit : ℕ) where
  stays_then : (standings : List OwnStanding) (steps : List Moment)
      → admitted_by standings ≤ limit → stays_from limit standings steps ≡ true
      → (count : ℕ) → admitted_by (fold (after_moment limit) standings (take count steps)) ≤ limit
  stays_then standings steps low stays zero = low
  stays_then standings [] low stays (suc count) = low
  stays_then standings (moment ∷ steps) low stays (suc count) =
      let parts = both_true (is_low limit standings moment) _ stays in
      stays_then (after_moment limit standings moment) steps (le_from _ limit parts.0) parts.1 count

  then_stays : (standings : List OwnStanding) (steps : List Moment)
      → ((count : ℕ) → admitted_by (fold (after_moment limit) standings (take count steps)) ≤ limit)
      → stays_from limit standings steps ≡ true
  then_stays standings [] each = refl
  then_stays standings (moment ∷ steps) each =
      rw (le_to (admitted_by (after_moment limit standings moment)) limit (each 1))
      (then_stays (after_moment limit standings moment) steps (λ count. each (suc count)))

pub staying : (limit : ℕ) (lines : List Line) (events : List (List Event)) (sessions : ℕ)
    → (stays_along limit sessions lines (reads_in events) ≡ true)
    ↔ StaysWithin limit sessions lines events
staying limit lines events sessions =
    let start = replicate sessions nothing in
    let none : admitted_by start ≡ 0 =
    sum_by-replicate (λ (own : OwnStanding). own.admitted) sessions nothing ∙ omega arith in
    let same = moments-reads_in lines events in (
      (λ stays count. stays_then limit start (moments lines events) (omega (arith, none))
          (ap (stays_from limit start) (sym same) ∙ stays) count),
      (λ within. ap (stays_from limit start) same
          ∙ then_stays limit start (moments lines events) within),
    )
