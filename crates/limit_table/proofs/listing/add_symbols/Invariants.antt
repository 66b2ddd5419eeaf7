-- the rows so far are added
use Rattle.std.proofs.Common.{◌≡◌, ◌++◌, map, take}
use Rattle.limit_table.specs.declared.kind.Entry.TheVariants as entry
use Rattle.limit_table.proofs.listing.add_symbols.Given as goal

abbrev pub invariant-loop-symbol : goal.invariant-loop-symbol
invariant-loop-symbol l =
    l.rows.items
    ≡ l.initial.rows.items ++ map (λ row. entry.Symbol row) (take l.symbol-index l.symbols)
