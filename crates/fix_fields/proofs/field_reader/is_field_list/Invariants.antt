-- the text is fields where the rest is
use Rattle.std.proofs.Common.{◌↔◌, ◌≤◌, length}
use Rattle.fix_fields.specs.FieldPlaces.{IsFieldList}
use Rattle.fix_fields.proofs.field_reader.is_field_list.Given as goal

abbrev pub invariant-loop-rest : goal.invariant-loop-rest
invariant-loop-rest l = record {
  shorter : length l.rest ≤ length l.text;
  same : IsFieldList l.text ↔ IsFieldList l.rest;
}

abbrev pub decreases-loop-rest : goal.decreases-loop-rest
decreases-loop-rest l = length l.rest
