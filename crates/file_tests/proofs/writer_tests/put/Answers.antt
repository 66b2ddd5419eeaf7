use Rattle.fix_fields.specs.Fields.{field, field_text}
use Rattle.fix_fields.proofs.ShortWrites.{short_field, has_room, is_begun, stays_short}
use Rattle.file_tests.proofs.writer_tests.put.Goals as goal

pub put-requires-clause-room : goal.put-requires-clause-room
put-requires-clause-room c =
    let own = field c.args.tag c.args.value.now in
    let short = short_field own.tag own.value c.requires.field.most c.requires.small in
    has_room _ c.args.count (field_text own) c.requires.few short c.requires.short

pub returns-clause-begun : goal.returns-clause-begun
returns-clause-begun c =
    let own = field c.args.tag c.args.value.now in
    is_begun _ _ (field_text own) c.requires.begun c.put.ensures

pub returns-clause-short : goal.returns-clause-short
returns-clause-short c =
    let own = field c.args.tag c.args.value.now in
    let short = short_field own.tag own.value c.requires.field.most c.requires.small in
    stays_short _ _ c.args.count (field_text own) c.requires.begun short c.requires.short
    c.put.ensures
