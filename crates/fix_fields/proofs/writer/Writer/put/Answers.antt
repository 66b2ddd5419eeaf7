use Rattle.std.proofs.Common.{arith}
use Rattle.fix_fields.specs.Fields.{field, field_text}
use Rattle.fix_fields.proofs.Writing.{text_fits, text_appended}
use Rattle.fix_fields.proofs.writer.Writer.put.Goals as goal

-- the field ends within the longest body
pub write_field-self-inside-requires : goal.write_field-self-inside-requires
write_field-self-inside-requires c =
    let w = c.self.inside in
    let text = field_text (field c.args.tag c.args.value.now) in
    let fits = text_fits w.begun w.end 8400 w.bytes text c.args.self.now c.self.view_is
    c.requires.begun c.requires.room (omega arith) (omega arith) in
    omega (arith, fits)

pub invariant_of-self : goal.invariant_of-self
invariant_of-self c =
    let w = c.self.inside in
    let text = field_text (field c.args.tag c.args.value.now) in
    let fits = text_fits w.begun w.end 8400 w.bytes text c.args.self.now c.self.view_is
    c.requires.begun c.requires.room (omega arith) (omega arith) in
    (omega arith, omega (arith, fits))

-- the body has the field more
pub returns : goal.returns
returns c =
    let w = c.self.inside in
    let write = c.write_field-self-inside in
    let text = field_text (field c.args.tag c.args.value.now) in
    text_appended w.begun w.end write.result w.bytes write.new.into text c.args.self.now
    c.self.view_is write.ensures.written (omega arith) (omega arith)
