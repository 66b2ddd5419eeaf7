-- The place of a name in a list of names.
use Rattle.std.specs.Prelude.{◌≡◌, ◌≢◌, ℕ, List, map, slice_get, Option, Some, None}
use Rattle.limit_table.specs.declared.kind.AccountRow.{AccountRow}
use Rattle.limit_table.specs.declared.kind.SymbolRow.{SymbolRow}

-- the name stands there, or nowhere where there is no place
abbrev pub IsPlaceOf : List (List ℕ) → List ℕ → Option ℕ → Type 0
IsPlaceOf names name None = (place : ℕ) → slice_get names place ≢ Some name
IsPlaceOf names name (Some place) = slice_get names place ≡ Some name

-- the look-up gives the place of each name
abbrev pub IsIndex : List (List ℕ) → (List ℕ → Option ℕ) → Type 0
IsIndex names place = (name : List ℕ) → IsPlaceOf names name (place name)

-- the names of accounts
abbrev pub account_names : List AccountRow → List (List ℕ)
account_names rows = map (λ row. row.name) rows

-- the names of symbols
abbrev pub symbol_names : List SymbolRow → List (List ℕ)
symbol_names rows = map (λ row. row.name) rows
