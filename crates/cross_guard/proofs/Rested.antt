-- What rests in a symbol after frames: no report raises it, and a term adds no more than its value.
use Rattle.std.proofs.Common.{◌≡◌, ℕ, ◌+◌, ◌≤◌, ◌==◌, List, [], ◌∷◌, ◌++◌, refl, ap, sym, ◌∙◌, subst, arith}
use Rattle.std.proofs.Common.{Bool, true, false, cond}
use Rattle.std.specs.Prelude.{map, max, not, ◌&&◌, nat_le}
use Rattle.std.specs.List.{list_any, flat_map}
use Rattle.fix_orders.specs.declared.message.Exec.{Exec}
use Rattle.fix_orders.specs.declared.message.Exec.TheVariants.{New, Canceled, Replaced, Rejected}
use Rattle.fix_orders.specs.declared.message.Exec.TheVariants.{Expired, Trade, Else}
use Rattle.cross_guard.specs.declared.resting.Term.{Term}
use Rattle.cross_guard.specs.Halves.{upper, lower, cross_join}
use Rattle.cross_guard.specs.HalvesLaws.{upper-join, lower-join, join_regroups, join_unit}
use Rattle.cross_guard.specs.Resting.{RestingValue, values_of, value_in, with_last}
use Rattle.cross_guard.specs.Resting.{is_open_with, has_id, reported, ended, with_terms}
use Rattle.cross_guard.specs.Resting.{terms_from, terms_without, later_without, is_none, is_term_of}
use Rattle.cross_guard.specs.Resting.{is_first_id, largest_total, with_term, with_id, started}
use Rattle.cross_guard.specs.Resting.{term_of_replace, is_replaced_by, after_replace, after_cancel}
use Rattle.fix_orders.specs.declared.message.Replace.{Replace}
use Rattle.fix_orders.specs.declared.message.Cancel.{Cancel}
use Rattle.std.proofs.lemmas.Bool.{eqb-true}
use Rattle.cross_guard.proofs.Clearing.{joined, whole-joined}

-- no half of the one is above the other's
pub record Below (a b : ℕ) : Type 0 where
  pub high : upper a ≤ upper b
  pub low : lower a ≤ lower b

pub joined-append : (a b : List ℕ) → joined (a ++ b) ≡ cross_join (joined a) (joined b)
joined-append [] b = sym (join_unit (joined b)).0
joined-append (value ∷ a) b =
    ap (λ n. cross_join value n) (joined-append a b)
    ∙ sym (join_regroups value (joined a) (joined b))

-- what rests by all orders in a symbol
abbrev pub rested : ℕ → List RestingValue → ℕ
rested symbol orders = joined (flat_map (values_of symbol) orders)

abbrev pub rests : ℕ → RestingValue → ℕ
rests symbol order = joined (values_of symbol order)

pub value-rested : (symbol : ℕ) (orders : List RestingValue) → value_in symbol orders ≡ rested symbol orders
value-rested symbol orders = whole-joined (flat_map (values_of symbol) orders)

pub rested-cons : (symbol : ℕ) (order : RestingValue) (orders : List RestingValue)
    → (upper (rested symbol (order ∷ orders)) ≡ max (upper (rests symbol order)) (upper (rested symbol orders)))
    × (lower (rested symbol (order ∷ orders)) ≡ max (lower (rests symbol order)) (lower (rested symbol orders)))
rested-cons symbol order orders =
    let is = joined-append (values_of symbol order) (flat_map (values_of symbol) orders) in (
      ap upper is ∙ upper-join (rests symbol order) (rested symbol orders),
      ap lower is ∙ lower-join (rests symbol order) (rested symbol orders),
    )

-- the last order that passes a test is changed, by which it rises by a bound at most
module _ (symbol bound : ℕ) (test : RestingValue → Bool) (change : RestingValue → RestingValue)
    (step : (order : RestingValue) → test order ≡ true
    → Below (rests symbol (change order)) (cross_join (rests symbol order) bound)) where
  by_case : (order : RestingValue) (orders : List RestingValue) (later here : Bool)
      → test order ≡ here
      → Below (rested symbol (with_last test change orders)) (cross_join (rested symbol orders) bound)
      → Below (rested symbol (cond later (order ∷ with_last test change orders)
      (cond here (change order ∷ orders) (order ∷ orders))))
      (cross_join (rested symbol (order ∷ orders)) bound)
  by_case order orders true here is next =
      let a = rested-cons symbol order (with_last test change orders) in
      let b = rested-cons symbol order orders in
      let u = upper-join (rested symbol (order ∷ orders)) bound in
      let l = lower-join (rested symbol (order ∷ orders)) bound in
      let v = upper-join (rested symbol orders) bound in
      let m = lower-join (rested symbol orders) bound in
      record {
        high = omega (arith, a.0, b.0, u, v, next.high);
        low = omega (arith, a.1, b.1, l, m, next.low);
      }
  by_case order orders false true is next =
      let a = rested-cons symbol (change order) orders in
      let b = rested-cons symbol order orders in
      let u = upper-join (rested symbol (order ∷ orders)) bound in
      let l = lower-join (rested symbol (order ∷ orders)) bound in
      let v = upper-join (rests symbol order) bound in
      let m = lower-join (rests symbol order) bound in
      let one = step order is in
      record {
        high = omega (arith, a.0, b.0, u, v, one.high);
        low = omega (arith, a.1, b.1, l, m, one.low);
      }
  by_case order orders false false is next =
      let u = upper-join (rested symbol (order ∷ orders)) bound in
      let l = lower-join (rested symbol (order ∷ orders)) bound in
      record { high = omega (arith, u); low = omega (arith, l) }

  pub last_within : (orders : List RestingValue)
      → Below (rested symbol (with_last test change orders)) (cross_join (rested symbol orders) bound)
  last_within [] =
      let u = upper-join 0 bound in let l = lower-join 0 bound in
      record { high = omega (arith, u); low = omega (arith, l) }
  last_within (order ∷ orders) =
      by_case order orders (list_any test orders) (test order) refl (last_within orders)

-- terms' values
abbrev pub values : List Term → List ℕ
values terms = map (λ (term : Term). term.value) terms

fewer-cons : (value : ℕ) (less more : List ℕ) → Below (joined less) (joined more)
    → Below (joined (value ∷ less)) (joined (value ∷ more))
fewer-cons value less more below =
    let u = upper-join value (joined less) in let l = lower-join value (joined less) in
    let v = upper-join value (joined more) in let m = lower-join value (joined more) in
    record { high = omega (arith, u, v, below.high); low = omega (arith, l, m, below.low) }

fewer-drop : (value : ℕ) (less more : List ℕ) → Below (joined less) (joined more)
    → Below (joined less) (joined (value ∷ more))
fewer-drop value less more below =
    let v = upper-join value (joined more) in let m = lower-join value (joined more) in
    record { high = omega (arith, v, below.high); low = omega (arith, m, below.low) }

pub all-below : (a : ℕ) → Below a a
all-below a = record { high = omega arith; low = omega arith }

from_below : (id : List ℕ) (terms : List Term)
    → Below (joined (values (terms_from id terms))) (joined (values terms))
from_below id [] = all-below 0
from_below id (term ∷ terms) =
    by_test (list_any (is_term_of id) (term ∷ terms)) (is_term_of id term) (from_below id terms)
  where
    by_test : (some here : Bool)
        → Below (joined (values (terms_from id terms))) (joined (values terms))
        → Below (joined (values (cond some (cond here (term ∷ terms) (terms_from id terms)) (term ∷ terms))))
        (joined (values (term ∷ terms)))
    by_test true true fewer = all-below (joined (values (term ∷ terms)))
    by_test true false fewer =
        fewer-drop term.value (values (terms_from id terms)) (values terms) fewer
    by_test false here fewer = all-below (joined (values (term ∷ terms)))

without_below : (id : List ℕ) (terms : List Term)
    → Below (joined (values (terms_without id terms))) (joined (values terms))
without_below id [] = all-below 0
without_below id (term ∷ terms) =
    by_test (list_any (is_term_of id) terms) (is_term_of id term) (without_below id terms)
  where
    by_test : (later here : Bool)
        → Below (joined (values (terms_without id terms))) (joined (values terms))
        → Below (joined (values (cond later (term ∷ terms_without id terms) (cond here terms (term ∷ terms)))))
        (joined (values (term ∷ terms)))
    by_test true here fewer =
        fewer-cons term.value (values (terms_without id terms)) (values terms) fewer
    by_test false true fewer =
        fewer-drop term.value (values terms) (values terms) (all-below (joined (values terms)))
    by_test false false fewer = all-below (joined (values (term ∷ terms)))

later_below : (id : List ℕ) (terms : List Term)
    → Below (joined (values (later_without id terms))) (joined (values terms))
later_below id [] = all-below 0
later_below id (term ∷ terms) =
    fewer-cons term.value (values (terms_without id terms)) (values terms) (without_below id terms)

-- what an order that is closed or not, of the symbol or another, rests as
abbrev rests_if : Bool → Bool → List Term → ℕ
rests_if closed here terms = joined (cond (not closed && here) (values terms) [])

fewer_terms : (closed here : Bool) (less more : List Term)
    → Below (joined (values less)) (joined (values more))
    → Below (rests_if closed here less) (cross_join (rests_if false here more) 0)
fewer_terms closed here less more below =
    rw ((join_unit (rests_if false here more)).1) (by_test closed here)
  where
    nothing : (a : ℕ) → Below 0 a
    nothing a = record { high = omega arith; low = omega arith }

    by_test : (closed here : Bool) → Below (rests_if closed here less) (rests_if false here more)
    by_test true here = nothing (rests_if false here more)
    by_test false true = below
    by_test false false = all-below 0

-- an order that passes the test is open
pub open-is : (closed has : Bool) → not closed && has ≡ true → closed ≡ false
open-is false has passes = refl
open-is true has passes = absurd (grind arith)

module _ (symbol : ℕ) (order : RestingValue) (is_open : order.closed ≡ false) where
  abbrev here : Bool
  here = order.symbol == symbol

  abbrev Lowers : RestingValue → Type 0
  Lowers after = Below (rests symbol after) (cross_join (rests symbol order) 0)

  lowers_by : (closed : Bool) (less : List Term)
      → Below (joined (values less)) (joined (values order.terms))
      → Below (rests_if closed here less) (cross_join (rests symbol order) 0)
  lowers_by closed less below =
      subst (λ b. Below (rests_if closed here less) (cross_join (rests_if b here order.terms) 0))
      (sym is_open) (fewer_terms closed here less order.terms below)

  same : Below (joined (values order.terms)) (joined (values order.terms))
  same = all-below (joined (values order.terms))

  rejected_lowers : (id : List ℕ) (first : Bool)
      → Lowers (cond first (ended order) (with_terms (terms_without id order.terms) order))
  rejected_lowers id true = lowers_by true order.terms same
  rejected_lowers id false =
      lowers_by (is_none (terms_without id order.terms)) (terms_without id order.terms)
      (without_below id order.terms)

  pub report_lowers : (id : List ℕ) (exec : Exec) → Lowers (reported id exec order)
  report_lowers id New = lowers_by order.closed order.terms same
  report_lowers id Canceled = lowers_by true order.terms same
  report_lowers id Replaced =
      lowers_by (is_none (terms_from id order.terms)) (terms_from id order.terms)
      (from_below id order.terms)
  report_lowers id Rejected = rejected_lowers id (is_first_id id order.ids)
  report_lowers id Expired = lowers_by true order.terms same
  report_lowers id (Trade quantity price) =
      lowers_by (nat_le (largest_total order.terms) (order.filled + quantity)) order.terms same
  report_lowers id Else = lowers_by order.closed order.terms same

  pub reject_lowers : (id : List ℕ) → Lowers (with_terms (later_without id order.terms) order)
  reject_lowers id =
      lowers_by (is_none (later_without id order.terms)) (later_without id order.terms)
      (later_below id order.terms)

-- what rests rises by no report
pub reports_lower : (symbol : ℕ) (id : List ℕ) (exec : Exec) (orders : List RestingValue)
    → Below (rested symbol (with_last (is_open_with id) (reported id exec) orders)) (rested symbol orders)
reports_lower symbol id exec orders =
    let within = last_within symbol 0 (is_open_with id) (reported id exec)
    (λ order passes. report_lowers symbol order (open-is order.closed (has_id id order) passes) id exec)
    orders in
    subst (λ n. Below (rested symbol (with_last (is_open_with id) (reported id exec) orders)) n)
    (join_unit (rested symbol orders)).1 within

pub rejects_lower : (symbol : ℕ) (id : List ℕ) (orders : List RestingValue)
    → Below (rested symbol (with_last (is_open_with id)
    (λ order. with_terms (later_without id order.terms) order) orders)) (rested symbol orders)
rejects_lower symbol id orders =
    let change : RestingValue → RestingValue = λ order. with_terms (later_without id order.terms) order in
    let within = last_within symbol 0 (is_open_with id) change
    (λ order passes. reject_lowers symbol order (open-is order.closed (has_id id order) passes) id)
    orders in
    subst (λ n. Below (rested symbol (with_last (is_open_with id) change orders)) n)
    (join_unit (rested symbol orders)).1 within

-- a further term raises by no more than its value
more_terms : (term : Term) (terms : List Term)
    → Below (joined (values (terms ++ term ∷ []))) (cross_join (joined (values terms)) term.value)
more_terms term [] =
    let u = upper-join term.value 0 in let l = lower-join term.value 0 in
    let v = upper-join 0 term.value in let m = lower-join 0 term.value in
    record { high = omega (arith, u, v); low = omega (arith, l, m) }
more_terms term (first ∷ terms) =
    let next = more_terms term terms in
    let a = upper-join first.value (joined (values (terms ++ term ∷ []))) in
    let b = lower-join first.value (joined (values (terms ++ term ∷ []))) in
    let c = upper-join (joined (values terms)) term.value in
    let d = lower-join (joined (values terms)) term.value in
    let e = upper-join first.value (joined (values terms)) in
    let f = lower-join first.value (joined (values terms)) in
    let g = upper-join (cross_join first.value (joined (values terms))) term.value in
    let h = lower-join (cross_join first.value (joined (values terms))) term.value in
    record { high = omega (arith, a, c, e, g, next.high); low = omega (arith, b, d, f, h, next.low) }

nothing-below : (a : ℕ) → Below 0 a
nothing-below a = record { high = omega arith; low = omega arith }

term_within : (symbol : ℕ) (term : Term) (order : RestingValue)
    → Below (rests symbol (with_term term order)) (cross_join (rests symbol order) term.value)
term_within symbol term order = by_test (not order.closed && order.symbol == symbol)
  where
    by_test : (counts : Bool)
        → Below (joined (cond counts (values (order.terms ++ term ∷ [])) []))
        (cross_join (joined (cond counts (values order.terms) [])) term.value)
    by_test true = more_terms term order.terms
    by_test false = nothing-below (cross_join 0 term.value)

term_elsewhere : (symbol : ℕ) (term : Term) (order : RestingValue)
    → (order.symbol == symbol) ≡ false
    → Below (rests symbol (with_term term order)) (cross_join (rests symbol order) 0)
term_elsewhere symbol term order apart = by_test order.closed (order.symbol == symbol) apart
  where
    by_test : (closed here : Bool) → here ≡ false
        → Below (joined (cond (not closed && here) (values (order.terms ++ term ∷ [])) []))
        (cross_join (joined (cond (not closed && here) (values order.terms) [])) 0)
    by_test true here is = nothing-below (cross_join 0 0)
    by_test false false is = nothing-below (cross_join 0 0)
    by_test false true is = absurd (grind arith)

-- a further order
pub added_within : (symbol bound : ℕ) (order : RestingValue) → Below (rests symbol order) bound
    → (orders : List RestingValue)
    → Below (rested symbol (orders ++ order ∷ [])) (cross_join (rested symbol orders) bound)
added_within symbol bound order below [] =
    let a = rested-cons symbol order [] in
    let u = upper-join 0 bound in let l = lower-join 0 bound in
    record { high = omega (arith, a.0, u, below.high); low = omega (arith, a.1, l, below.low) }
added_within symbol bound order below (first ∷ orders) =
    let next = added_within symbol bound order below orders in
    let a = rested-cons symbol first (orders ++ order ∷ []) in
    let b = rested-cons symbol first orders in
    let u = upper-join (rested symbol (first ∷ orders)) bound in
    let l = lower-join (rested symbol (first ∷ orders)) bound in
    let v = upper-join (rested symbol orders) bound in
    let m = lower-join (rested symbol orders) bound in
    record {
      high = omega (arith, a.0, b.0, u, v, next.high);
      low = omega (arith, a.1, b.1, l, m, next.low);
    }

started_within : (symbol place side : ℕ) (term : Term)
    → Below (rests symbol (started place side term)) term.value
started_within symbol place side term = by_test (place == symbol)
  where
    by_test : (here : Bool) → Below (joined (cond here (term.value ∷ []) [])) term.value
    by_test true =
        let u = upper-join term.value 0 in let l = lower-join term.value 0 in
        record { high = omega (arith, u); low = omega (arith, l) }
    by_test false = nothing-below term.value

started_elsewhere : (symbol place side : ℕ) (term : Term) → (place == symbol) ≡ false
    → Below (rests symbol (started place side term)) 0
started_elsewhere symbol place side term apart = rw apart (all-below 0)

-- an order that is passed
pub new_within : (symbol place side : ℕ) (term : Term) (orders : List RestingValue)
    → Below (rested symbol (orders ++ started place side term ∷ []))
    (cross_join (rested symbol orders) term.value)
new_within symbol place side term orders =
    added_within symbol term.value (started place side term)
    (started_within symbol place side term) orders

pub new_elsewhere : (symbol place side : ℕ) (term : Term) (orders : List RestingValue)
    → (place == symbol) ≡ false
    → Below (rested symbol (orders ++ started place side term ∷ [])) (rested symbol orders)
new_elsewhere symbol place side term orders apart =
    subst (λ n. Below (rested symbol (orders ++ started place side term ∷ [])) n)
    (join_unit (rested symbol orders)).1
    (added_within symbol 0 (started place side term)
    (started_elsewhere symbol place side term apart) orders)

same_place : (a b symbol : ℕ) → (a == b) ≡ true → (b == symbol) ≡ false → (a == symbol) ≡ false
same_place a b symbol same apart = subst (λ n. (n == symbol) ≡ false) (sym (eqb-true a b same)) apart

and_both : (a b c : Bool) → a && (b && c) ≡ true → b ≡ true
and_both true true c passes = refl
and_both true false c passes = absurd (grind arith)
and_both false b c passes = absurd (grind arith)

-- a replace that is passed
module _ (symbol place : ℕ) (request : Replace) (value : ℕ) (orders : List RestingValue) where
  abbrev term : Term
  term = term_of_replace request value

  abbrev test : RestingValue → Bool
  test order = is_replaced_by place request order

  pub replace_within : Below (rested symbol (after_replace place request value orders))
      (cross_join (rested symbol orders) value)
  replace_within = by_test (list_any test orders)
    where
      by_test : (some : Bool)
          → Below (rested symbol (cond some (with_last test (with_term term) orders)
          (orders ++ started place request.side term ∷ [])))
          (cross_join (rested symbol orders) value)
      by_test true =
          last_within symbol value test (with_term term)
          (λ order passes. term_within symbol term order) orders
      by_test false = new_within symbol place request.side term orders

  pub replace_elsewhere : (place == symbol) ≡ false
      → Below (rested symbol (after_replace place request value orders)) (rested symbol orders)
  replace_elsewhere apart = by_test (list_any test orders)
    where
      by_test : (some : Bool)
          → Below (rested symbol (cond some (with_last test (with_term term) orders)
          (orders ++ started place request.side term ∷ []))) (rested symbol orders)
      by_test true =
          subst (λ n. Below (rested symbol (with_last test (with_term term) orders)) n)
          (join_unit (rested symbol orders)).1
          (last_within symbol 0 test (with_term term)
          (λ order passes. term_elsewhere symbol term order
          (same_place order.symbol place symbol
          (and_both (is_open_with request.orig order) (order.symbol == place)
          (order.side == request.side) passes) apart)) orders)
      by_test false = new_elsewhere symbol place request.side term orders apart

-- a cancel
pub cancel_keeps : (symbol : ℕ) (request : Cancel) (orders : List RestingValue)
    → Below (rested symbol (after_cancel request orders)) (rested symbol orders)
cancel_keeps symbol request orders =
    subst (λ n. Below (rested symbol (after_cancel request orders)) n)
    (join_unit (rested symbol orders)).1
    (last_within symbol 0 (is_open_with request.orig) (with_id request.id)
    (λ order passes. subst (λ n. Below (rests symbol order) n)
    (sym (join_unit (rests symbol order)).1) (all-below (rests symbol order))) orders)
