-- The orders so far rest as this.
use Rattle.std.proofs.Common.{◌≡◌, ◌≤◌}
use Rattle.std.specs.Prelude.{take}
use Rattle.cross_guard.specs.Halves.{cross_cap}
use Rattle.cross_guard.specs.Resting.{value_in}
use Rattle.cross_guard.proofs.orders.join_orders.Given as goal

abbrev pub invariant-loop-order : goal.invariant-loop-order
invariant-loop-order l = record {
  so_far : l.all ≡ value_in l.symbol (take l.order-index l.orders);
  capped : l.all ≤ cross_cap;
}
