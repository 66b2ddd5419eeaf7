-- The trees of a run: the firm's, then the accounts', then the symbols', then the halt tree.
use Rattle.std.specs.Prelude.{ℕ, ◌+◌, ◌==◌, List, ◌∷◌, ◌++◌, length, map, max, Option, slice_get}
use Rattle.std.specs.Prelude.{if◌then◌else◌}
use Rattle.fold_law.specs.Sum.{sum_of}
use Rattle.fold_law.specs.Whole.{whole_of}
use Rattle.limit_table.specs.declared.kind.AccountRow.{AccountRow}
use Rattle.limit_table.specs.declared.kind.SymbolRow.{SymbolRow}
pub use Rattle.limit_table.specs.Value.{LimitsValue}

-- the number of the halt tree, and so how many trees of sums there are
abbrev pub halt_tree : LimitsValue → ℕ
halt_tree limits = 1 + length limits.accounts + length limits.symbols

-- the most trees of sums: the firm's, and those of as many accounts and symbols as a file can have
abbrev pub sums_most : ℕ
sums_most = 501

-- how many trees there are, with the halt tree
abbrev pub tree_count : LimitsValue → ℕ
tree_count limits = halt_tree limits + 1

-- the tree of the account at a place among the limits' rows
abbrev pub account_tree : ℕ → ℕ
account_tree place = 1 + place

-- the tree of the symbol at a place among the limits' rows
abbrev pub symbol_tree : LimitsValue → ℕ → ℕ
symbol_tree limits place = 1 + length limits.accounts + place

-- the fold of a tree: the largest in the halt tree, and else the sum
abbrev pub fold_of : LimitsValue → ℕ → List ℕ → ℕ
fold_of limits tree = if tree == halt_tree limits then whole_of max 0 else whole_of sum_of 0

abbrev pub account_limits : List AccountRow → List ℕ
account_limits rows = map (λ row. row.limit) rows

abbrev pub symbol_limits : List SymbolRow → List ℕ
symbol_limits rows = map (λ row. row.limit) rows

-- the limits by tree, in whole currency units
abbrev pub tree_limits : LimitsValue → List ℕ
tree_limits limits =
    limits.firm ∷ account_limits limits.accounts ++ symbol_limits limits.symbols

-- the limit of a tree in whole currency units, where it has one: the halt tree has none
abbrev pub limit_of : LimitsValue → ℕ → Option ℕ
limit_of limits tree = slice_get (tree_limits limits) tree
