-- The limits of accounts and of symbols by tree.
use Rattle.std.proofs.Common.{◌≡◌, ℕ, zero, suc, ◌+◌, ◌<◌, List, [], ◌∷◌, length, map, refl}
use Rattle.std.proofs.Common.{sym, ap, ◌∙◌, arith}
use Rattle.std.specs.Prelude.{slice_index_or}
use Rattle.std.proofs.lemmas.List.{get_or_append_left, get_or-append-add, length-map}
use Rattle.limit_table.specs.declared.kind.AccountRow.{AccountRow}
use Rattle.limit_table.specs.declared.kind.SymbolRow.{SymbolRow}
use Rattle.limit_table.specs.Trees.{LimitsValue, tree_limits, account_tree, symbol_tree}
use Rattle.limit_table.specs.Trees.{account_limits, symbol_limits}

pub map_at : {X : Type 0} (f : X → ℕ) (xs : List X) (place : ℕ) (other : X) → place < length xs
    → slice_index_or (map f xs) place 0 ≡ f (slice_index_or xs place other)
map_at f [] place other inside = absurd (omega (arith, inside))
map_at f (x ∷ xs) zero other inside = refl
map_at f (x ∷ xs) (suc place) other inside = map_at f xs place other (omega (arith, inside))

pub account_limit : (limits : LimitsValue) (place : ℕ) (other : AccountRow)
    → place < length limits.accounts
    → (slice_index_or limits.accounts place other).limit
    ≡ slice_index_or (tree_limits limits) (account_tree place) 0
account_limit limits place other inside =
    let next : account_tree place ≡ suc place = omega arith in
    sym (ap (λ n. slice_index_or (tree_limits limits) n 0) next
    ∙ get_or_append_left (account_limits limits.accounts) (symbol_limits limits.symbols) 0 place
    (omega (arith, inside, length-map limits.accounts (λ (row : AccountRow). row.limit)))
    ∙ map_at (λ (row : AccountRow). row.limit) limits.accounts place other inside)

pub symbol_limit : (limits : LimitsValue) (place : ℕ) (other : SymbolRow)
    → place < length limits.symbols
    → (slice_index_or limits.symbols place other).limit
    ≡ slice_index_or (tree_limits limits) (symbol_tree limits place) 0
symbol_limit limits place other inside =
    let next : symbol_tree limits place ≡ suc (length (account_limits limits.accounts) + place) =
    omega (arith, length-map limits.accounts (λ (row : AccountRow). row.limit)) in
    sym (ap (λ n. slice_index_or (tree_limits limits) n 0) next
    ∙ get_or-append-add (account_limits limits.accounts) (symbol_limits limits.symbols) place 0
    ∙ map_at (λ (row : SymbolRow). row.limit) limits.symbols place other inside)
