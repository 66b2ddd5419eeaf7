-- The last item that passes a test, and what is made of it.
use Rattle.std.proofs.Common.{◌≡◌, ℕ, zero, suc, ◌≤◌, ◌<◌, List, [], ◌∷◌, length, refl, ap, arith, ◌∙◌}
use Rattle.std.proofs.Common.{Bool, true, false, subst}
use Rattle.std.specs.Prelude.{drop, slice_set, ◌||◌, remove}
use Rattle.std.specs.List.{list_any, slice_index_or}
use Rattle.cross_guard.specs.declared.resting.Term.{Term}
use Rattle.cross_guard.specs.Held.{IsLast}
use Rattle.cross_guard.specs.Resting.{RestingValue, with_last, is_term_of, terms_without, later_without}
use Rattle.cross_guard.specs.Resting.{terms_from}

pub or-none : (b c : Bool) → b || c ≡ false → (b ≡ false) × (c ≡ false)
or-none false false is = (refl, refl)
or-none false true is = absurd (grind arith)
or-none true c is = absurd (grind arith)

or-true : (b c : Bool) → c ≡ true → b || c ≡ true
or-true true c is = refl
or-true false c is = is

-- within a list an item at a place is one, whatever stands for those past its end
pub index_within : {A : Type 0} (items : List A) (n : ℕ) (d e : A) → n < length items
    → slice_index_or items n d ≡ slice_index_or items n e
index_within [] n d e inside = absurd (omega arith)
index_within (item ∷ items) zero d e inside = refl
index_within (item ∷ items) (suc n) d e inside = index_within items n d e (omega arith)

-- an item at a place is one of the items
pub any_at : {A : Type 0} (test : A → Bool) (items : List A) (n : ℕ) (d : A) → n < length items
    → test (slice_index_or items n d) ≡ true → list_any test items ≡ true
any_at test [] n d inside passes = absurd (omega arith)
any_at test (item ∷ items) zero d inside passes = rw passes refl
any_at test (item ∷ items) (suc n) d inside passes =
    or-true (test item) (list_any test items) (any_at test items n d (omega arith) passes)

-- one place further back, where the item there doesn't pass
pub none_from : {A : Type 0} (test : A → Bool) (items : List A) (n : ℕ) (d : A) → n < length items
    → test (slice_index_or items n d) ≡ false → list_any test (drop (suc n) items) ≡ false
    → list_any test (drop n items) ≡ false
none_from test [] n d inside fails none = absurd (omega arith)
none_from test (item ∷ items) zero d inside fails none = rw fails none
none_from test (item ∷ items) (suc n) d inside fails none =
    none_from test items n d (omega arith) fails none

-- the item there passes, and none behind it does
pub last_here : {A : Type 0} (test : A → Bool) (items : List A) (n : ℕ) (d : A) → n < length items
    → test (slice_index_or items n d) ≡ true → list_any test (drop (suc n) items) ≡ false
    → IsLast test n items
last_here test items n d inside passes none = record {
  inside = inside;
  passes = λ e. ap test (index_within items n e d inside) ∙ passes;
  none = none;
}

pub tail_last : {A : Type 0} (test : A → Bool) (item : A) (items : List A) (n : ℕ)
    → IsLast test (suc n) (item ∷ items) → IsLast test n items
tail_last test item items n last = record {
  inside = omega (arith, last.inside);
  passes = λ d. last.passes d;
  none = last.none;
}

-- the last order is changed at its place
pub changed_at : (test : RestingValue → Bool) (change : RestingValue → RestingValue)
    (orders : List RestingValue) (n : ℕ) (now d : RestingValue) → IsLast test n orders
    → now ≡ change (slice_index_or orders n d) → slice_set orders n now ≡ with_last test change orders
changed_at test change [] n now d last is = absurd (omega (arith, last.inside))
changed_at test change (order ∷ orders) zero now d last is =
    rw (last.none, last.passes d) (ap (λ first. first ∷ orders) is)
changed_at test change (order ∷ orders) (suc n) now d last is =
    rw (any_at test orders n d (omega (arith, last.inside)) (last.passes d))
    (ap (λ others. order ∷ others)
    (changed_at test change orders n now d (tail_last test order orders n last) is))

pub changed_none : (test : RestingValue → Bool) (change : RestingValue → RestingValue)
    (orders : List RestingValue) → list_any test orders ≡ false
    → with_last test change orders ≡ orders
changed_none test change [] none = refl
changed_none test change (order ∷ orders) none =
    let two = or-none (test order) (list_any test orders) none in rw (two.1, two.0) refl

-- the last term is taken out at its place
pub without_at : (id : List ℕ) (terms : List Term) (n : ℕ) (d : Term)
    → IsLast (is_term_of id) n terms → remove terms n ≡ terms_without id terms
without_at id [] n d last = absurd (omega (arith, last.inside))
without_at id (term ∷ terms) zero d last = rw (last.none, last.passes d) refl
without_at id (term ∷ terms) (suc n) d last =
    rw (any_at (is_term_of id) terms n d (omega (arith, last.inside)) (last.passes d))
    (ap (λ others. term ∷ others)
    (without_at id terms n d (tail_last (is_term_of id) term terms n last)))

pub without_none : (id : List ℕ) (terms : List Term) → list_any (is_term_of id) terms ≡ false
    → terms_without id terms ≡ terms
without_none id [] none = refl
without_none id (term ∷ terms) none =
    let two = or-none (is_term_of id term) (list_any (is_term_of id) terms) none in
    rw (two.1, two.0) refl

-- the same behind the first term
pub later_at : (id : List ℕ) (terms : List Term) (n : ℕ) (d : Term)
    → IsLast (is_term_of id) n terms → 0 < n → remove terms n ≡ later_without id terms
later_at id [] n d last some = absurd (omega (arith, last.inside))
later_at id (term ∷ terms) zero d last some = absurd (omega (arith, some))
later_at id (term ∷ terms) (suc n) d last some =
    ap (λ others. term ∷ others)
    (without_at id terms n d (tail_last (is_term_of id) term terms n last))

-- where the first alone has the id, or none has it, no term is taken out
pub later_first : (id : List ℕ) (terms : List Term) (n : ℕ) → n ≤ 0
    → IsLast (is_term_of id) n terms → later_without id terms ≡ terms
later_first id [] n first last = refl
later_first id (term ∷ terms) zero first last =
    ap (λ others. term ∷ others) (without_none id terms last.none)
later_first id (term ∷ terms) (suc n) first last = absurd (omega arith)

pub later_none : (id : List ℕ) (terms : List Term) → list_any (is_term_of id) terms ≡ false
    → later_without id terms ≡ terms
later_none id [] none = refl
later_none id (term ∷ terms) none =
    let two = or-none (is_term_of id term) (list_any (is_term_of id) terms) none in
    ap (λ others. term ∷ others) (without_none id terms two.1)

-- where no term has the id, all stay
pub from_none : (id : List ℕ) (terms : List Term) → list_any (is_term_of id) terms ≡ false
    → terms_from id terms ≡ terms
from_none id [] none = refl
from_none id (term ∷ terms) none = rw none refl

-- where the first has the id, all stay; where it hasn't, it goes
pub from_here : (id : List ℕ) (term : Term) (terms : List Term) → is_term_of id term ≡ true
    → terms_from id (term ∷ terms) ≡ term ∷ terms
from_here id term terms is = rw is refl

pub from_next : (id : List ℕ) (term : Term) (terms : List Term) → is_term_of id term ≡ false
    → list_any (is_term_of id) (term ∷ terms) ≡ true
    → (terms_from id (term ∷ terms) ≡ terms_from id terms)
    × (list_any (is_term_of id) terms ≡ true)
from_next id term terms isnt some =
    let P : Bool → Type 0 = λ b. b || list_any (is_term_of id) terms ≡ true in
    let later : list_any (is_term_of id) terms ≡ true = subst P isnt some in
    (rw (isnt, later) refl, later)
