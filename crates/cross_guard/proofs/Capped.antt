-- Values that can be posted stay so, and join to one that can.
use Rattle.std.proofs.Common.{ℕ, ◌≤◌, List, [], ◌∷◌, ◌++◌, arith, Bool, true, false, cond}
use Rattle.std.specs.Prelude.{fold}
use Rattle.std.specs.List.{AllByRecursion, list_any}
use Rattle.cross_guard.specs.declared.resting.Term.{Term}
use Rattle.cross_guard.specs.Halves.{cross_cap, cross_join}
use Rattle.cross_guard.specs.Resting.{is_term_of, terms_from, terms_without, later_without}

abbrev pub AreCapped : List Term → Type 0
AreCapped terms = AllByRecursion (λ (term : Term). term.value ≤ cross_cap) terms

pub capped-snoc : (terms : List Term) (term : Term) → AreCapped terms → term.value ≤ cross_cap
    → AreCapped (terms ++ term ∷ [])
capped-snoc [] term capped most = (most, tt)
capped-snoc (first ∷ terms) term capped most = (capped.0, capped-snoc terms term capped.1 most)

pub capped-from : (id : List ℕ) (terms : List Term) → AreCapped terms
    → AreCapped (terms_from id terms)
capped-from id [] capped = tt
capped-from id (term ∷ terms) capped =
    by_test (list_any (is_term_of id) (term ∷ terms)) (is_term_of id term)
    (capped-from id terms capped.1)
  where
    by_test : (some here : Bool) → AreCapped (terms_from id terms)
        → AreCapped (cond some (cond here (term ∷ terms) (terms_from id terms)) (term ∷ terms))
    by_test true true later = capped
    by_test true false later = later
    by_test false here later = capped

pub capped-without : (id : List ℕ) (terms : List Term) → AreCapped terms
    → AreCapped (terms_without id terms)
capped-without id [] capped = tt
capped-without id (term ∷ terms) capped =
    by_test (list_any (is_term_of id) terms) (is_term_of id term)
    (capped-without id terms capped.1)
  where
    by_test : (later here : Bool) → AreCapped (terms_without id terms)
        → AreCapped (cond later (term ∷ terms_without id terms) (cond here terms (term ∷ terms)))
    by_test true here others = (capped.0, others)
    by_test false true others = capped.1
    by_test false false others = capped

pub capped-later : (id : List ℕ) (terms : List Term) → AreCapped terms
    → AreCapped (later_without id terms)
capped-later id [] capped = tt
capped-later id (term ∷ terms) capped = (capped.0, capped-without id terms capped.1)

pub join_capped : (a b : ℕ) → a ≤ cross_cap → b ≤ cross_cap → cross_join a b ≤ cross_cap
join_capped a b first second = omega arith

pub fold_capped : (start : ℕ) (terms : List Term) → start ≤ cross_cap → AreCapped terms
    → fold (λ all (term : Term). cross_join all term.value) start terms ≤ cross_cap
fold_capped start [] most capped = most
fold_capped start (term ∷ terms) most capped =
    fold_capped (cross_join start term.value) terms
    (join_capped start term.value most capped.0) capped.1
