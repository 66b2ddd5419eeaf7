-- Rows that are read can be posted.
use Rattle.std.proofs.Common.{◌≡◌, ℕ, ◌+◌, ◌<◌, ◌≤◌, List, [], ◌∷◌, length, refl, subst}
use Rattle.std.proofs.Common.{Vec, Global, arith, Result, Ok, Err, Option, Some, None, Bool, true, false, cond}
use Rattle.std.specs.Prelude.{All, IfOk, ◌-◌, not, ◌==◌, ◌&&◌, nat_le, nat_lt, codes, option_map}
use Rattle.std.specs.List.{position}
use Rattle.std.specs.Str.Parse.{digits_value}
use Rattle.std.proofs.lemmas.Bool.{leb-true}
use Rattle.std.proofs.lemmas.List.Elements.{All-cons, All-nil}
use Rattle.std.proofs.lemmas.List.Quantifiers.{position-Some}
use Rattle.limit_table.specs.Columns.{column, is_empty, is_number}
use Rattle.limit_table.specs.Kinds.{same_text}
use Rattle.limit_table.specs.Trees.{LimitsValue, account_tree, halt_tree, symbol_tree}
use Rattle.limit_table.specs.declared.fault.LimitFault.{LimitFault}
use Rattle.limit_table.specs.declared.fault.LimitFault.TheVariants as fault
use Rattle.limit_desk.specs.declared.least.TheConstants.{OPEN}
use Rattle.limit_desk.specs.declared.officer.OfficerKind.{OfficerKind}
use Rattle.limit_desk.specs.declared.officer.OfficerKind.TheVariants as kind
use Rattle.limit_desk.specs.declared.officer.OfficerRow.{OfficerRow}
use Rattle.limit_desk.specs.declared.officer.OfficerTree.TheVariants as tree
use Rattle.limit_desk.specs.Officers.{◌>>=◌, IsRead, account_named, kind_named, limit_in, named_row}
use Rattle.limit_desk.specs.Officers.{row_at, row_by, row_named, row_of, rows_from, rows_most}
use Rattle.limit_desk.specs.Officers.{symbol_named, value_in}
use Rattle.limit_desk.specs.Posting.{AreOfficerRows, CanPost}
use Rattle.limit_desk.proofs.OfficerRows.{Row, at_few, bind_ok}

-- a row that can be posted, where there are so many trees of sums
abbrev CanPostRow : ℕ → OfficerRow → Type 0
CanPostRow count row = CanPost count row.tree row.value

-- a value that is read
abbrev read : {A : Type 0} → A → Result A LimitFault
read x = Ok x

ok_same : {A : Type 0} (x y : A) → read x ≡ read y → x ≡ y
ok_same x y h = cc h

-- what isn't refused is there
not_refused : {A : Type 0} (refused : Bool) (why : LimitFault) (r : Result A LimitFault) (x : A)
    → cond refused (Err why) r ≡ Ok x → r ≡ Ok x
not_refused true why r x h = cc h
not_refused false why r x h = h

value_within : (number most : ℕ) (text : List ℕ) (value : ℕ) → value_in number most text ≡ Ok value
    → value ≤ most
value_within number most text value h =
    by_tests (is_number text) (nat_le (digits_value 10 text) most) refl h
  where
    by_tests : (spelled small : Bool) → nat_le (digits_value 10 text) most ≡ small
        → cond (spelled && small) (Ok (digits_value 10 text)) (Err (fault.Number number)) ≡ Ok value
        → value ≤ most
    by_tests true true is h =
        subst (λ n. n ≤ most) (ok_same (digits_value 10 text) value h) (leb-true _ _ is)
    by_tests true false is h = cc h
    by_tests false small is h = cc h

limit_within : (number : ℕ) (text : List ℕ) (value : ℕ) → limit_in number text ≡ Ok value
    → value ≤ OPEN
limit_within number text value h = by_test (same_text text (codes "none")) h
  where
    by_test : (none : Bool) → cond none (Ok OPEN) (value_in number (OPEN - 1) text) ≡ Ok value
        → value ≤ OPEN
    by_test true h = omega (arith, ok_same OPEN value h)
    by_test false h = omega (arith, value_within number (OPEN - 1) text value h)

-- a place that is found is within the list
position_within : {A : Type 0} (p : A → Bool) (xs : List A) (place : ℕ) → position p xs ≡ Some place
    → place < length xs
position_within p [] place h = cc h
position_within p (x ∷ xs) place h = (position-Some p (x ∷ xs) place x h).0

mapped : (f : ℕ → ℕ) (o : Option ℕ) (value : ℕ) → option_map f o ≡ Some value
    → (x : ℕ) × (o ≡ Some x) × (f x ≡ value)
mapped f None value h = cc h
mapped f (Some x) value h = (x, refl, cc h)

account_inside : (limits : LimitsValue) (name : List ℕ) (place : ℕ)
    → account_named limits name ≡ Some place → place < halt_tree limits
account_inside limits name place h =
    let found = mapped account_tree _ place h in
    omega (arith, found.2, position_within _ limits.accounts found.0 found.1)

symbol_inside : (limits : LimitsValue) (name : List ℕ) (place : ℕ)
    → symbol_named limits name ≡ Some place → place < halt_tree limits
symbol_inside limits name place h =
    let found = mapped (symbol_tree limits) _ place h in
    omega (arith, found.2, position_within _ limits.symbols found.0 found.1)

-- a limit in a tree that is there
named_sound : (count number value : ℕ) (row : OfficerRow) (place : Option ℕ)
    → ((t : ℕ) → place ≡ Some t → t < count) → value ≤ OPEN → named_row number place value ≡ Ok row
    → CanPostRow count row
named_sound count number value row None inside most h = cc h
named_sound count number value row (Some t) inside most h =
    subst (CanPostRow count) (ok_same (record { tree = tree.Limit t; value = value }) row h)
    (inside t refl, most)

module _ (limits : LimitsValue) (number : ℕ) where
  limit_sound : (place : Option ℕ) (text : List ℕ) (row : OfficerRow)
      → ((t : ℕ) → place ≡ Some t → t < halt_tree limits)
      → (limit_in number text >>= (λ value. named_row number place value)) ≡ Ok row
      → CanPostRow (halt_tree limits) row
  limit_sound place text row inside h =
      let both = bind_ok (limit_in number text) _ row h in
      named_sound (halt_tree limits) number both.0 row place inside
      (limit_within number text both.0 both.1) both.2

  firm_inside : (t : ℕ) → Some 0 ≡ Some t → t < halt_tree limits
  firm_inside t h = let first : 0 ≡ t = cc h in omega (arith, first)

  level_sound : (text : List ℕ) (row : OfficerRow)
      → (value_in number 1 text >>= (λ value. Ok (record { tree = tree.Halt; value = value })))
      ≡ Ok row → CanPostRow (halt_tree limits) row
  level_sound text row h =
      let both = bind_ok (value_in number 1 text) _ row h in
      subst (CanPostRow (halt_tree limits))
      (ok_same (record { tree = tree.Halt; value = both.0 }) row both.2)
      (value_within number 1 text both.0 both.1)

  row_by_sound : (k : OfficerKind) (name text : List ℕ) (row : OfficerRow)
      → row_by limits number k name text ≡ Ok row → CanPostRow (halt_tree limits) row
  row_by_sound kind.Firm name text row h =
      limit_sound (Some 0) text row firm_inside
      (not_refused (not (is_empty name)) (fault.RowShape number) _ row h)
  row_by_sound kind.Account name text row h =
      limit_sound (account_named limits name) text row (account_inside limits name) h
  row_by_sound kind.Symbol name text row h =
      limit_sound (symbol_named limits name) text row (symbol_inside limits name) h
  row_by_sound kind.Halt name text row h =
      level_sound text row (not_refused (not (is_empty name)) (fault.RowShape number) _ row h)

  row_named_sound : (k : Option OfficerKind) (name text : List ℕ) (row : OfficerRow)
      → row_named limits number k name text ≡ Ok row → CanPostRow (halt_tree limits) row
  row_named_sound None name text row h = cc h
  row_named_sound (Some k) name text row h = row_by_sound k name text row h

  row_at_sound : (fields : Row) (row : OfficerRow) → row_at limits number fields ≡ Ok row
      → CanPostRow (halt_tree limits) row
  row_at_sound fields row h =
      let both = bind_ok (row_of limits number fields) _ row h in
      let same = ok_same both.0 row
      (not_refused (nat_lt rows_most number) (fault.TooMany number) (Ok both.0) row both.2) in
      subst (CanPostRow (halt_tree limits)) same
      (row_named_sound (kind_named (column fields 0)) (column fields 1) (column fields 2) both.0
      (not_refused (not (length fields == 3)) (fault.RowShape number) _ both.0 both.1))

-- what rows set can be posted, and their numbers are those that there may be
rows_sound : (limits : LimitsValue) (number : ℕ) (rows : List Row) (set : List OfficerRow)
    → rows_from limits number rows ≡ Ok set → number ≤ rows_most + 1
    → All (CanPostRow (halt_tree limits)) set × (number + length set ≤ rows_most + 1)
rows_sound limits number [] set h first =
    let none : [] ≡ set = ok_same [] set h in
    subst (λ s. All (CanPostRow (halt_tree limits)) s × (number + length s ≤ rows_most + 1)) none
    (All-nil (CanPostRow (halt_tree limits)), omega (arith, first))
rows_sound limits number (fields ∷ rows) set h first =
    let one = bind_ok (row_at limits number fields) _ set h in
    let two = bind_ok (rows_from limits (number + 1) rows) _ set one.2 in
    let few = at_few limits number fields one.0 one.1 in
    let later = rows_sound limits (number + 1) rows two.0 two.1 (omega (arith, few)) in
    subst (λ s. All (CanPostRow (halt_tree limits)) s × (number + length s ≤ rows_most + 1))
    (ok_same (one.0 ∷ two.0) set two.2) (
      All-cons (CanPostRow (halt_tree limits)) one.0 two.0 (row_at_sound limits number fields one.0 one.1) later.0,
      omega (arith, later.1),
    )

-- the posts that are read can be made
file_sound : (limits : LimitsValue) (bytes : List ℕ) (set : List OfficerRow)
    → IsRead limits bytes set → AreOfficerRows limits set
file_sound limits bytes set is =
    let sound = rows_sound limits 1 is.rows set is.sets (omega arith) in
    record { each = sound.0; few = omega (arith, sound.1) }

-- where they are read
pub if_sound : (limits : LimitsValue) (bytes : List ℕ)
    (r : Result (Vec OfficerRow Global) LimitFault)
    → IfOk r (λ rows. IsRead limits bytes rows.items)
    → IfOk r (λ rows. AreOfficerRows limits rows.items)
if_sound limits bytes (Ok rows) is = file_sound limits bytes rows.items is
if_sound limits bytes (Err why) is = is
