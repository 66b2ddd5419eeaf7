-- No order behind the place is open with the id.
use Rattle.std.proofs.Common.{◌≡◌, ◌≤◌, length, false}
use Rattle.std.specs.Prelude.{drop}
use Rattle.std.specs.List.{list_any}
use Rattle.cross_guard.specs.Resting.{is_open_with}
use Rattle.cross_guard.proofs.orders.last_open.Given as goal

abbrev pub invariant-loop-place : goal.invariant-loop-place
invariant-loop-place l = record {
  within : l.place ≤ length l.orders;
  none : list_any (is_open_with l.id) (drop l.place l.orders) ≡ false;
}

abbrev pub decreases-loop-place : goal.decreases-loop-place
decreases-loop-place l = l.place
