-- Where names stand among the rows of the limits: among different names a name has one place, which is
-- that of a row.
use Rattle.std.proofs.Common.{◌≡◌, ℕ, zero, suc, ◌+◌, ◌<◌, List, [], ◌∷◌, length, Bool, cond, refl}
use Rattle.std.proofs.Common.{sym, ap, ◌∙◌, arith, true, false, Option, Some, None, Ok}
use Rattle.std.specs.Prelude.{slice_get}
use Rattle.std.specs.Option.{option_map}
use Rattle.std.specs.List.{IsDistinct, AllByRecursion}
use Rattle.std.specs.Str.{bytes_eq}
use Rattle.std.specs.Cmp.Lexicographic.{bytes_decides}
use Rattle.std.proofs.lemmas.Bool.{false_from_ne_true, true≢false}
use Rattle.std.proofs.lemmas.List.{length-map}
use Rattle.std.proofs.lemmas.Map.Keys.{IsDistinct-head, IsDistinct-tail}
use Rattle.std.proofs.lemmas.Slice.Eq.{bytes_eq-Decides}
use Rattle.fix_orders.specs.declared.message.NewOrder.{NewOrder}
use Rattle.limit_table.specs.Files.{IsHeldByFile}
use Rattle.limit_table.specs.Kinds.{same_text}
use Rattle.limit_table.specs.Places.{IsPlaceOf, account_names, symbol_names}
use Rattle.limit_table.specs.Trees.{LimitsValue}
use Rattle.limit_table.proofs.FileLimits.{held_is_file_limits}
use Rattle.admit_core.specs.declared.rows.OrderRows.{OrderRows}
use Rattle.admit_core.specs.Legs.{AreRowsOf}
use Rattle.order_desk.specs.Rows.{place_among, rows_at, rows_of}

-- a place is within the names
pub within : (names : List (List ℕ)) (name : List ℕ) (place : ℕ)
    → place_among name names ≡ Some place → place < length names
within [] name place is = absurd cc
within (own ∷ names) name place is =
    by (bytes_eq own name) (place_among name names) (within names name) is
  where
    by : (here : Bool) (later : Option ℕ)
        → ((before : ℕ) → later ≡ Some before → before < length names)
        → cond here (Some 0) (option_map (λ p. p + 1) later) ≡ Some place
        → place < length (own ∷ names)
    by true later below is = let at : 0 ≡ place = cc in omega (arith, at)
    by false None below is = absurd cc
    by false (Some before) below is =
        let at : before + 1 ≡ place = cc in omega (arith, at, below before refl)

-- a name
abbrev Name : Type 0
Name = List ℕ

-- a name that differs from all isn't at a place among them
not_there : (own name : Name) (names : List Name) (place : ℕ)
    → AllByRecursion (λ other. same_text own other ≡ false) names
    → slice_get names place ≡ Some name → bytes_eq own name ≡ false
not_there own name [] place apart at = absurd cc
not_there own name (other ∷ names) zero apart at =
    let same : other ≡ name = cc in
    false_from_ne_true (bytes_eq own name) (λ (equal : bytes_eq own name ≡ true).
    true≢false (sym ((bytes_decides own other).1 ((bytes_eq-Decides own name).0 equal ∙ sym same))
    ∙ apart.0))
not_there own name (other ∷ names) (suc place) apart at =
    not_there own name names place apart.1 at

-- among different names the place of a name is the first
pub place_is : (names : List Name) (name : Name) (place : Option ℕ) → IsDistinct same_text names
    → IsPlaceOf names name place → place ≡ place_among name names
place_is [] name None distinct at = refl
place_is [] name (Some place) distinct at = absurd cc
place_is (own ∷ names) name None distinct at =
    let apart : bytes_eq own name ≡ false = false_from_ne_true (bytes_eq own name)
    (λ (equal : bytes_eq own name ≡ true).
    at zero (ap (λ text. Some text) ((bytes_eq-Decides own name).0 equal))) in
    rw apart (ap (option_map (λ place. place + 1))
    (place_is names name None (IsDistinct-tail same_text own names distinct)
    (λ place found. at (suc place) found)))
place_is (own ∷ names) name (Some zero) distinct at =
    let same : own ≡ name = cc in
    rw ((bytes_eq-Decides own name).1 same) refl
place_is (own ∷ names) name (Some (suc place)) distinct at =
    let next : suc place ≡ place + 1 = omega arith in
    rw (not_there own name names place (IsDistinct-head same_text own names distinct) at)
    (ap (λ n. Some n) next ∙ ap (option_map (λ place. place + 1))
    (place_is names name (Some place) (IsDistinct-tail same_text own names distinct) at))

pub account_is : (limits : LimitsValue) (name : Name) (place : Option ℕ) → IsHeldByFile limits
    → IsPlaceOf (account_names limits.accounts) name place
    → place ≡ place_among name (account_names limits.accounts)
account_is limits name place held at =
    place_is (account_names limits.accounts) name place
    (held_is_file_limits limits held).accounts.distinct at

-- the rows of an order by the places of its names
pub rows_are : (limits : LimitsValue) (order : NewOrder) (account symbol : Option ℕ)
    → IsHeldByFile limits → IsPlaceOf (account_names limits.accounts) order.account account
    → IsPlaceOf (symbol_names limits.symbols) order.symbol symbol
    → rows_at account symbol ≡ rows_of limits order
rows_are limits order account symbol held own traded =
    let own_is = account_is limits order.account account held own in
    let traded_is = place_is (symbol_names limits.symbols) order.symbol symbol
    (held_is_file_limits limits held).symbols.distinct traded in
    rw (own_is, traded_is) refl

-- both places of known rows
places_of_rows : (account symbol : Option ℕ) (rows : OrderRows) → rows_at account symbol ≡ Ok rows
    → (account ≡ Some rows.account) × (symbol ≡ Some rows.symbol)
places_of_rows None symbol rows is = absurd cc
places_of_rows (Some account) None rows is = absurd cc
places_of_rows (Some account) (Some symbol) rows is =
    let both : record { account = account; symbol = symbol } ≡ rows = cc in
    (ap (λ (r : OrderRows). Some r.account) both, ap (λ (r : OrderRows). Some r.symbol) both)

pub known_rows : (limits : LimitsValue) (order : NewOrder) (rows : OrderRows)
    → rows_of limits order ≡ Ok rows → AreRowsOf limits rows
known_rows limits order rows is =
    let both = places_of_rows (place_among order.account (account_names limits.accounts))
    (place_among order.symbol (symbol_names limits.symbols)) rows is in
    record {
      account = omega (
        arith,
        within (account_names limits.accounts) order.account rows.account both.0,
        length-map limits.accounts (λ row. row.name),
      );
      symbol = omega (
        arith,
        within (symbol_names limits.symbols) order.symbol rows.symbol both.1,
        length-map limits.symbols (λ row. row.name),
      );
    }
