-- The row at the place has its collars in order.
use Rattle.std.proofs.Common.{◌≡◌, ◌≤◌, sym, subst}
use Rattle.limit_table.specs.declared.kind.SymbolRow.{SymbolRow}
use Rattle.cross_guard.specs.Levels.{value_of_order}
use Rattle.cross_guard.proofs.Bands.{held_band}
use Rattle.cross_guard.proofs.Taken.{at_row}
use Rattle.cross_guard.proofs.take.value_at.Goals as goal

pub cross_value-requires : goal.cross_value-requires
cross_value-requires c =
    let row = c.index-symbols-tree.result in
    let limits = c.args.limits.now in
    let is = rw c.symbols.ensures at c.index-symbols-tree.is in
    subst (λ (r : SymbolRow). r.low ≤ r.high) (sym is)
    (held_band limits c.args.tree row c.stand_in_a_file.ensures c.requires)

pub returns-clause-value : goal.returns-clause-value
returns-clause-value c =
    let row = c.index-symbols-tree.result in
    let limits = c.args.limits.now in
    let is = rw c.symbols.ensures at c.index-symbols-tree.is in
    let P : SymbolRow → Type 0 = λ r.
    c.cross_value.result ≡ value_of_order r c.args.side c.args.kind c.args.price in
    at_row P limits.symbols c.args.tree row c.requires
    (subst P is c.cross_value.ensures.value)
