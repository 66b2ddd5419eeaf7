use Rattle.fix_fields.proofs.FieldLists.{kind_if}
use Rattle.fix_fields.proofs.field_reader.begins_with_kind.Goals as goal

pub returns-in-Some : goal.returns-in-Some
returns-in-Some c =
    kind_if c.args.text.now c.in-Some.field c.is_kind.result c.in-Some.ensures.some
    c.is_kind.ensures
