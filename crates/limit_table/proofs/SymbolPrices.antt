-- The prices of the symbols' rows of limits that a file can hold.
use Rattle.std.proofs.Common.{◌≡◌, ℕ, zero, suc, ◌+◌, ◌<◌, ◌≤◌, List, [], ◌∷◌, ◌++◌, length, map}
use Rattle.std.proofs.Common.{refl, ◌∙◌, arith, subst}
use Rattle.std.specs.Prelude.{slice_index_or}
use Rattle.std.proofs.lemmas.List.{get_or_append_left, get_or-append-add, length-map, length-append}
use Rattle.limit_table.specs.declared.kind.AccountRow.{AccountRow}
use Rattle.limit_table.specs.declared.kind.Entry.{Entry}
use Rattle.limit_table.specs.declared.kind.Entry.TheVariants as entry
use Rattle.limit_table.specs.declared.kind.SymbolRow.{SymbolRow}
use Rattle.limit_table.specs.declared.limits.Limits.{Limits}
use Rattle.limit_table.specs.Files.{IsHeldByFile}
use Rattle.limit_table.specs.Printing.{entries_in, trip_rows}
use Rattle.limit_table.specs.Ranges.{IsInRange}
use Rattle.limit_table.proofs.FileLimits.{held_is_file_limits}
use Rattle.fix_fields.specs.Numbers.{price_most}

-- the entry of a symbol's row
symbol_entry : (rows : List SymbolRow) (place : ℕ) (other : SymbolRow) (d : Entry)
    → place < length rows
    → slice_index_or (map (λ row. entry.Symbol row) rows) place d
    ≡ entry.Symbol (slice_index_or rows place other)
symbol_entry [] place other d inside = absurd (omega (arith, inside))
symbol_entry (row ∷ rows) zero other d inside = refl
symbol_entry (row ∷ rows) (suc place) other d inside =
    symbol_entry rows place other d (omega (arith, inside))

-- the highest price of a symbol's row is a price
pub held_high : (limits : Limits) (place : ℕ) (other : SymbolRow) → IsHeldByFile limits
    → place < length limits.symbols
    → (slice_index_or limits.symbols place other).high ≤ price_most
held_high limits place other held inside =
    let accounts : List Entry = map (λ (row : AccountRow). entry.Account row) limits.accounts in
    let symbols : List Entry = map (λ (row : SymbolRow). entry.Symbol row) limits.symbols in
    let others : List Entry = trip_rows limits.trip
    ++ (entry.Quota limits.quota ∷ entry.Repeat limits.repeat
    ∷ map (λ row. entry.Off row) limits.off) in
    let d : Entry = entry.Firm 0 in
    let many : length symbols ≡ length limits.symbols =
    length-map limits.symbols (λ (row : SymbolRow). entry.Symbol row) in
    let number : ℕ = suc (length accounts + place) in
    let below : number < length (entries_in limits) =
    omega (arith, length-append accounts (symbols ++ others), length-append symbols others) in
    let own : slice_index_or (entries_in limits) number d
    ≡ entry.Symbol (slice_index_or limits.symbols place other) =
    get_or-append-add accounts (symbols ++ others) place d
    ∙ get_or_append_left symbols others d place (omega arith)
    ∙ symbol_entry limits.symbols place other d inside in
    let range = subst IsInRange own ((held_is_file_limits limits held).in_range number d below) in
    range.2.1
