use Rattle.std.proofs.Common.{[], ◌∷◌, arith}
use Rattle.std.specs.Fmt.{digits}
use Rattle.fix_fields.specs.Fields.{field, field_text}
use Rattle.fix_fields.proofs.Writing.{body-begun}
use Rattle.fix_fields.proofs.writer.Writer.begin.Goals as goal

-- the first field has five bytes
pub write_field-self-inside-requires : goal.write_field-self-inside-requires
unfolding digits
write_field-self-inside-requires c = omega arith

pub invariant_of-self : goal.invariant_of-self
unfolding digits
invariant_of-self c = (omega arith, omega arith)

-- the body is that field
pub returns : goal.returns
returns c =
    let write = c.write_field-self-inside in
    let text = field_text (field 35 (c.args.kind ∷ [])) in
    body-begun write.result c.self.inside.bytes write.new.into text write.ensures.written
    (omega arith)
