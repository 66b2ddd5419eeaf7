use Rattle.std.proofs.Common.{decimal, arith}
use Rattle.std.proofs.lemmas.Fmt.{length-decimal-le}
use Rattle.fix_fields.specs.Fields.{field, field_text}
use Rattle.fix_fields.proofs.ShortWrites.{short_field, has_room, is_begun, stays_short}
use Rattle.file_tests.proofs.writer_tests.put_number.Goals as goal

pub put_number-requires-clause-room : goal.put_number-requires-clause-room
put_number-requires-clause-room c =
    let own = field c.args.tag (decimal c.args.value) in
    let digits = length-decimal-le 20 c.args.value (omega arith) (omega arith) (omega arith) in
    let short = short_field own.tag own.value c.requires.tag.1 (omega (arith, digits)) in
    has_room _ c.args.count (field_text own) c.requires.few short c.requires.short

pub returns-clause-begun : goal.returns-clause-begun
returns-clause-begun c =
    let own = field c.args.tag (decimal c.args.value) in
    is_begun _ _ (field_text own) c.requires.begun c.put_number.ensures

pub returns-clause-short : goal.returns-clause-short
returns-clause-short c =
    let own = field c.args.tag (decimal c.args.value) in
    let digits = length-decimal-le 20 c.args.value (omega arith) (omega arith) (omega arith) in
    let short = short_field own.tag own.value c.requires.tag.1 (omega (arith, digits)) in
    stays_short _ _ c.args.count (field_text own) c.requires.begun short c.requires.short
    c.put_number.ensures
