use Rattle.std.proofs.Common.{◌≡◌, drop, map}
use Rattle.order_desk.specs.Dropping.{after_rows}
use Rattle.order_desk.proofs.dropping.drop_by_rows.Given as goal

abbrev pub invariant-loop-row : goal.invariant-loop-row
invariant-loop-row g l = record {
  rest : after_rows l.order l.rows (map g.K.Screen.meaning l.initial.screens.items)
      ≡ after_rows l.order (drop l.row-index l.rows) (map g.K.Screen.meaning l.screens.items);
}
