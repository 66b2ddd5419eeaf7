-- the fields so far
use Rattle.std.proofs.Common.{List, ◌++◌, take, map}
use Rattle.fix_fields.specs.Fields.{FieldValue}
use Rattle.fix_orders.specs.Put.{HasPut, part_value}
use Rattle.fix_orders.proofs.put.put_all.Given as goal

abbrev pub invariant-loop-part : goal.invariant-loop-part
invariant-loop-part l = (fields : List FieldValue) → HasPut fields l.initial.to
    → HasPut (fields ++ map part_value (take l.part-index l.parts)) l.to
