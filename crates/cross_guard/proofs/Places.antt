-- What is made of the last order that a request or a report names, by its place.
use Rattle.std.proofs.Common.{◌≡◌, ℕ, zero, suc, List, [], ◌∷◌, ◌++◌, refl, sym, ◌∙◌, subst, arith, Bool, true, false, cond}
use Rattle.std.proofs.lemmas.Bool.{true≢false}
use Rattle.std.specs.Prelude.{slice_set, Some, None, Result, Ok, Err, OnOk}
use Rattle.std.specs.List.{list_any, slice_index_or}
use Rattle.fix_orders.specs.declared.message.Replace.{Replace}
use Rattle.cross_guard.specs.Held.{IsLast}
use Rattle.cross_guard.specs.Resting.{RestingValue, is_open_with, is_replaced_by, after_replace}
use Rattle.cross_guard.specs.Resting.{has_id, with_last, with_term, term_of_replace, started, symbol_with}
use Rattle.cross_guard.proofs.Lasts.{any_at, changed_at, changed_none, or-none, tail_last}
use Rattle.cross_guard.proofs.Rested.{open-is}

-- a replace adds a term to the order at its place
pub replaced_at : (symbol : ℕ) (request : Replace) (value : ℕ) (orders : List RestingValue) (n : ℕ)
    (now d : RestingValue) → IsLast (is_replaced_by symbol request) n orders
    → now ≡ with_term (term_of_replace request value) (slice_index_or orders n d)
    → slice_set orders n now ≡ after_replace symbol request value orders
replaced_at symbol request value orders n now d last is =
    rw (any_at (is_replaced_by symbol request) orders n d last.inside (last.passes d))
    (changed_at (is_replaced_by symbol request) (with_term (term_of_replace request value)) orders n
    now d last is)

-- or starts an order of its own
pub replaced_none : (symbol : ℕ) (request : Replace) (value : ℕ) (orders : List RestingValue)
    → list_any (is_replaced_by symbol request) orders ≡ false
    → orders ++ started symbol request.side (term_of_replace request value) ∷ []
    ≡ after_replace symbol request value orders
replaced_none symbol request value orders none = rw none refl

-- the symbol of the order at its place
pub symbol_at : (id : List ℕ) (orders : List RestingValue) (n : ℕ) (d : RestingValue)
    → IsLast (is_open_with id) n orders
    → Some (slice_index_or orders n d).symbol ≡ symbol_with id orders
symbol_at id [] n d last = absurd (omega (arith, last.inside))
symbol_at id (order ∷ orders) zero d last = rw (last.none, last.passes d) refl
symbol_at id (order ∷ orders) (suc n) d last =
    rw (any_at (is_open_with id) orders n d (omega (arith, last.inside)) (last.passes d))
    (symbol_at id orders n d (tail_last (is_open_with id) order orders n last))

pub symbol_none : (id : List ℕ) (orders : List RestingValue)
    → list_any (is_open_with id) orders ≡ false → None ≡ symbol_with id orders
symbol_none id [] none = refl
symbol_none id (order ∷ orders) none =
    let two = or-none (is_open_with id order) (list_any (is_open_with id) orders) none in
    rw (two.1, two.0) refl

-- where no order has the id, nothing is made of any
none_open : (id : List ℕ) (order : RestingValue) (orders : List RestingValue) (some here : Bool)
    → list_any (is_open_with id) orders ≡ some → is_open_with id order ≡ here
    → cond some (symbol_with id orders) (cond here (Some order.symbol) None) ≡ None
    → (symbol_with id orders ≡ None → list_any (is_open_with id) orders ≡ false)
    → (some ≡ false) × (here ≡ false)
none_open id order orders true here some_is here_is unknown later =
    absurd (true≢false (sym some_is ∙ later unknown))
none_open id order orders false true some_is here_is unknown later = absurd cc
none_open id order orders false false some_is here_is unknown later = (refl, refl)

any_none : (id : List ℕ) (orders : List RestingValue) → symbol_with id orders ≡ None
    → list_any (is_open_with id) orders ≡ false
any_none id [] unknown = refl
any_none id (order ∷ orders) unknown =
    let two = none_open id order orders (list_any (is_open_with id) orders) (is_open_with id order)
    refl refl unknown (any_none id orders) in
    rw (two.1, two.0) refl

pub unknown_same : (id : List ℕ) (change : RestingValue → RestingValue) (orders : List RestingValue)
    → symbol_with id orders ≡ None → with_last (is_open_with id) change orders ≡ orders
unknown_same id change orders unknown =
    changed_none (is_open_with id) change orders (any_none id orders unknown)

-- the order at that place is open
pub open_last : (id : List ℕ) (orders : List RestingValue) (n : ℕ) (old : RestingValue)
    → IsLast (is_open_with id) n orders → old ≡ slice_index_or orders n old → old.closed ≡ false
open_last id orders n old last at =
    open-is old.closed (has_id id old)
    (subst (λ o. is_open_with id o ≡ true) (sym at) (last.passes old))

-- what follows from success
pub on_ok : {A E : Type 0} (r : Result A E) (P Q : Type 0) → (P → Q) → OnOk r P → OnOk r Q
on_ok (Ok a) P Q leads ok = leads ok
on_ok (Err e) P Q leads ok = tt
