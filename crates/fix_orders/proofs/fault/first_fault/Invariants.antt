-- no row so far has a fault
use Rattle.std.proofs.Common.{◌≡◌, List, drop}
use Rattle.fix_fields.specs.Fields.{FieldValue}
use Rattle.fix_orders.specs.Faults.{first_fault}
use Rattle.fix_orders.specs.Slotted.{SlotsHave}
use Rattle.fix_orders.specs.Table.{table}
use Rattle.fix_orders.proofs.fault.first_fault.Given as goal

abbrev pub invariant-loop-place : goal.invariant-loop-place
invariant-loop-place l = (listed : List FieldValue) → SlotsHave l.slots listed
    → first_fault l.kind listed table ≡ first_fault l.kind listed (drop l.place table)
