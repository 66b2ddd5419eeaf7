-- What was kept of a request last is taken back.
use Rattle.std.proofs.Common.{◌≡◌, ℕ, zero, suc, ◌-◌, ◌<◌, List, [], ◌∷◌, ◌++◌, length, take, ap, ◌∙◌, arith, false}
use Rattle.std.specs.Prelude.{slice_set}
use Rattle.std.specs.List.{slice_index_or}
use Rattle.std.proofs.lemmas.List.{get_or-set_same, length-append, length-set, set-get_or, set-set, take_at}
use Rattle.cross_guard.specs.declared.resting.Term.{Term}
use Rattle.cross_guard.specs.Added.{HasTerm}
use Rattle.cross_guard.specs.Resting.{RestingValue, with_term, without_term}
use Rattle.cross_guard.proofs.Capped.{AreCapped}
use Rattle.cross_guard.proofs.Lasts.{index_within}

-- a list without its last item
pub front_of : {A : Type 0} (items : List A) (item : A)
    → take (length (items ++ item ∷ []) - 1) (items ++ item ∷ []) ≡ items
front_of items item =
    take_at items (item ∷ []) (length (items ++ item ∷ []) - 1)
    (omega (arith, length-append items (item ∷ [])))

undo_term : (term : Term) (order : RestingValue) → without_term (with_term term order) ≡ order
undo_term term order =
    ap (λ ids. let own : RestingValue = record order {
      ids = ids;
      terms = take (length (order.terms ++ term ∷ []) - 1) (order.terms ++ term ∷ []);
    } in own) (front_of order.ids term.id)
    ∙ ap (λ terms. let own : RestingValue = record order { terms = terms } in own)
    (front_of order.terms term)

-- the order at a place without its last term is what it was
pub undone : (place : ℕ) (before now : List RestingValue) (d order : RestingValue)
    → HasTerm place before now → order ≡ without_term (slice_index_or now place d)
    → slice_set now place order ≡ before
undone place before now d order has is =
    let old = slice_index_or before place d in
    let changed = with_term has.term old in
    let at : slice_index_or now place d ≡ changed =
    ap (λ l. slice_index_or l place d) (has.is d)
    ∙ get_or-set_same before place changed d has.inside in
    let back : order ≡ old = is ∙ ap without_term at ∙ undo_term has.term old in
    ap (λ l. slice_set l place order) (has.is d)
    ∙ set-set before place changed order
    ∙ ap (λ o. slice_set before place o) back
    ∙ set-get_or before place d

-- terms that can be posted stay so
pub capped-take : (n : ℕ) (terms : List Term) → AreCapped terms → AreCapped (take n terms)
capped-take zero terms capped = tt
capped-take (suc n) [] capped = tt
capped-take (suc n) (term ∷ terms) capped = (capped.0, capped-take n terms capped.1)

-- an order's term is kept at its place
pub has_term : (place : ℕ) (items : List RestingValue) (old now : RestingValue) (term : Term)
    → place < length items → old ≡ slice_index_or items place old → now ≡ with_term term old
    → HasTerm place items (slice_set items place now)
has_term place items old now term inside at is = record {
  term = term;
  inside = inside;
  is = λ d. ap (λ o. slice_set items place o) (is ∙ ap (with_term term)
      (at ∙ index_within items place old d inside));
}

-- no order
none : RestingValue
none = record { symbol = 0; side = 0; ids = []; terms = []; filled = 0; closed = false }

-- the order that has one term more is one of them
pub inside_now : (place : ℕ) (before now : List RestingValue) → HasTerm place before now
    → place < length now
inside_now place before now has = omega (
  arith,
  has.inside,
  ap length (has.is none),
  length-set before place (with_term has.term (slice_index_or before place none)),
)
