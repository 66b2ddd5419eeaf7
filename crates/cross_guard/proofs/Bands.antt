-- The collars of the symbols' rows of limits that a file can hold.
use Rattle.std.proofs.Common.{◌≡◌, ℕ, zero, suc, ◌+◌, ◌<◌, ◌≤◌, List, [], ◌∷◌, ◌++◌, length, map}
use Rattle.std.proofs.Common.{refl, ◌∙◌, arith, subst}
use Rattle.std.specs.List.{All, slice_index_or}
use Rattle.std.proofs.lemmas.List.{get_or_append_left, get_or-append-add, length-map, length-append}
use Rattle.limit_table.specs.declared.kind.SymbolRow.{SymbolRow}
use Rattle.limit_table.specs.Files.{IsHeldByFile}
use Rattle.limit_table.specs.Ranges.{IsInRange}
use Rattle.limit_table.specs.Trees.{LimitsValue}
use Rattle.limit_table.proofs.FileLimits.{held_is_file_limits}

map_at : {S E : Type 0} (f : S → E) (items : List S) (place : ℕ) (other : S) (d : E)
    → place < length items → slice_index_or (map f items) place d ≡ f (slice_index_or items place other)
map_at f [] place other d inside = absurd (omega (arith, inside))
map_at f (item ∷ items) zero other d inside = refl
map_at f (item ∷ items) (suc place) other d inside = map_at f items place other d (omega (arith, inside))

-- what is said of all of a list whose second part is this
at_second : {A S E : Type 0} (P : E → Type 0) (first : E) (f : A → E) (accounts : List A) (g : S → E)
    (symbols : List S) (others : List E)
    → All P (first ∷ (map f accounts ++ (map g symbols ++ others))) → (place : ℕ) (other : S)
    → place < length symbols → P (g (slice_index_or symbols place other))
at_second P first f accounts g symbols others all place other inside =
    let front = map f accounts in
    let own = map g symbols in
    let many : length own ≡ length symbols = length-map symbols g in
    let number : ℕ = suc (length front + place) in
    let below : number < length (first ∷ (front ++ (own ++ others))) =
    omega (arith, length-append front (own ++ others), length-append own others) in
    subst P (get_or-append-add front (own ++ others) place first
    ∙ get_or_append_left own others first place (omega arith)
    ∙ map_at g symbols place other first inside) (all number first below)

-- the lowest price of a symbol's row isn't above its highest
pub held_band : (limits : LimitsValue) (place : ℕ) (other : SymbolRow) → IsHeldByFile limits
    → place < length limits.symbols
    → (slice_index_or limits.symbols place other).low
    ≤ (slice_index_or limits.symbols place other).high
held_band limits place other held inside =
    (at_second IsInRange _ _ limits.accounts _ limits.symbols _
    (held_is_file_limits limits held).in_range place other inside).5
