-- The orders of a session that rest at the venue, and what frames make of them.
use Rattle.std.specs.Prelude.{ℕ, ◌+◌, ◌-◌, List, [], ◌∷◌, ◌++◌, length, take, map, max, fold, Bool, true, false}
use Rattle.std.specs.Prelude.{◌&&◌, ◌==◌, not, nat_le, if◌then◌else◌, Option, Some, None}
use Rattle.std.specs.List.{list_any, flat_map}
use Rattle.std.specs.Str.{bytes_eq}
use Rattle.fold_law.specs.Whole.{whole_of}
use Rattle.fix_orders.specs.declared.message.Exec.{Exec}
use Rattle.fix_orders.specs.declared.message.Exec.TheVariants.{New, Canceled, Replaced, Rejected}
use Rattle.fix_orders.specs.declared.message.Exec.TheVariants.{Expired, Trade, Else}
use Rattle.fix_orders.specs.declared.message.NewOrder.{NewOrder}
use Rattle.fix_orders.specs.declared.message.Replace.{Replace}
use Rattle.fix_orders.specs.declared.message.Cancel.{Cancel}
use Rattle.cross_guard.specs.declared.resting.Term.{Term}
use Rattle.cross_guard.specs.Halves.{cross_join}

-- an order: the place of its symbol, its side, all its ids, its live terms, and what is filled
pub record RestingValue : Type 0 where
  pub symbol : ℕ
  pub side : ℕ
  pub ids : List (List ℕ)
  pub terms : List Term
  pub filled : ℕ
  pub closed : Bool

-- the term of an order or a replace, by the value that its price has
abbrev pub term_of_new : NewOrder → ℕ → Term
term_of_new order value = record { id = order.id; value = value; total = order.quantity }

abbrev pub term_of_replace : Replace → ℕ → Term
term_of_replace request value =
    record { id = request.id; value = value; total = request.quantity }

-- an order that starts with a term
abbrev pub started : ℕ → ℕ → Term → RestingValue
started symbol side term = record {
  symbol = symbol;
  side = side;
  ids = term.id ∷ [];
  terms = term ∷ [];
  filled = 0;
  closed = false;
}

-- one of the order's ids is this one
abbrev pub has_id : List ℕ → RestingValue → Bool
has_id id order = list_any (λ own. bytes_eq own id) order.ids

-- the order isn't closed and has the id
abbrev pub is_open_with : List ℕ → RestingValue → Bool
is_open_with id order = not order.closed && has_id id order

-- the last order that passes the test is changed
abbrev pub with_last : (RestingValue → Bool) → (RestingValue → RestingValue) → List RestingValue
    → List RestingValue
with_last test change [] = []
with_last test change (order ∷ orders) =
    if list_any test orders then order ∷ with_last test change orders
    else (if test order then change order ∷ orders else order ∷ orders)

-- a further term, and its id
abbrev pub with_term : Term → RestingValue → RestingValue
with_term term order =
    record order { ids = order.ids ++ term.id ∷ []; terms = order.terms ++ term ∷ [] }

-- without the last term, and the last id
abbrev pub without_term : RestingValue → RestingValue
without_term order = record order {
  ids = take (length order.ids - 1) order.ids;
  terms = take (length order.terms - 1) order.terms;
}

-- a further id
abbrev pub with_id : List ℕ → RestingValue → RestingValue
with_id id order = record order { ids = order.ids ++ id ∷ [] }

-- an order that was passed
abbrev pub after_new : ℕ → NewOrder → ℕ → List RestingValue → List RestingValue
after_new symbol order value orders =
    orders ++ started symbol order.side (term_of_new order value) ∷ []

-- an order of this symbol and side, open, with the id that a replace names
abbrev pub is_replaced_by : ℕ → Replace → RestingValue → Bool
is_replaced_by symbol request order =
    is_open_with request.orig order && (order.symbol == symbol && order.side == request.side)

-- a replace that was passed: a further term of the last such order, or an order of its own
abbrev pub after_replace : ℕ → Replace → ℕ → List RestingValue → List RestingValue
after_replace symbol request value orders =
    let term = term_of_replace request value in
    if list_any (is_replaced_by symbol request) orders
    then with_last (is_replaced_by symbol request) (with_term term) orders
    else orders ++ started symbol request.side term ∷ []

-- a cancel
abbrev pub after_cancel : Cancel → List RestingValue → List RestingValue
after_cancel request orders =
    with_last (is_open_with request.orig) (with_id request.id) orders

-- a term with this id
abbrev pub is_term_of : List ℕ → Term → Bool
is_term_of id term = bytes_eq term.id id

-- the terms from the first with this id on; all, where there is none
abbrev pub terms_from : List ℕ → List Term → List Term
terms_from id [] = []
terms_from id (term ∷ terms) =
    if list_any (is_term_of id) (term ∷ terms)
    then (if is_term_of id term then term ∷ terms else terms_from id terms)
    else term ∷ terms

-- the terms without the last with this id
abbrev pub terms_without : List ℕ → List Term → List Term
terms_without id [] = []
terms_without id (term ∷ terms) =
    if list_any (is_term_of id) terms then term ∷ terms_without id terms
    else (if is_term_of id term then terms else term ∷ terms)

-- the same, but the first term stays
abbrev pub later_without : List ℕ → List Term → List Term
later_without id [] = []
later_without id (term ∷ terms) = term ∷ terms_without id terms

-- no term is left
abbrev pub is_none : List Term → Bool
is_none [] = true
is_none (term ∷ terms) = false

-- the order with these live terms, closed where there is none
abbrev pub with_terms : List Term → RestingValue → RestingValue
with_terms terms order = record order { terms = terms; closed = is_none terms }

abbrev pub ended : RestingValue → RestingValue
ended order = record order { closed = true }

-- the id is the order's first
abbrev pub is_first_id : List ℕ → List (List ℕ) → Bool
is_first_id id [] = false
is_first_id id (own ∷ ids) = bytes_eq own id

-- the largest total of the live terms
abbrev pub largest_total : List Term → ℕ
largest_total terms = fold (λ most (term : Term). max most term.total) 0 terms

-- the quantity is filled, and the order closes where what is filled reaches the largest total
abbrev pub traded : ℕ → RestingValue → RestingValue
traded quantity order = record order {
  filled = order.filled + quantity;
  closed = nat_le (largest_total order.terms) (order.filled + quantity);
}

-- an open order after a report with this id
abbrev pub reported : List ℕ → Exec → RestingValue → RestingValue
reported id New order = order
reported id Canceled order = ended order
reported id Replaced order = with_terms (terms_from id order.terms) order
reported id Rejected order =
    if is_first_id id order.ids then ended order
    else with_terms (terms_without id order.terms) order
reported id Expired order = ended order
reported id (Trade quantity price) order = traded quantity order
reported id Else order = order

-- a report: nothing where it has no id
abbrev pub after_report : Option (List ℕ) → Exec → List RestingValue → List RestingValue
after_report None exec orders = orders
after_report (Some id) exec orders = with_last (is_open_with id) (reported id exec) orders

-- a cancel reject
abbrev pub after_reject : List ℕ → List RestingValue → List RestingValue
after_reject id orders =
    with_last (is_open_with id) (λ order. with_terms (later_without id order.terms) order) orders

-- what an order rests as in a symbol
abbrev pub values_of : ℕ → RestingValue → List ℕ
values_of symbol order =
    if not order.closed && order.symbol == symbol
    then map (λ (term : Term). term.value) order.terms else []

-- what a session's orders rest as in a symbol: the highest buy and the lowest sell
abbrev pub value_in : ℕ → List RestingValue → ℕ
value_in symbol orders = whole_of cross_join 0 (flat_map (values_of symbol) orders)

-- the symbol of the last open order with the id
abbrev pub symbol_with : List ℕ → List RestingValue → Option ℕ
symbol_with id [] = None
symbol_with id (order ∷ orders) =
    if list_any (is_open_with id) orders then symbol_with id orders
    else (if is_open_with id order then Some order.symbol else None)
