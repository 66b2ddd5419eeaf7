-- The first field tells the type.
use Rattle.std.proofs.Common.{List, subst}
use Rattle.std.specs.List.{AllByRecursion}
use Rattle.fix_fields.specs.Places.{IsPlace}
use Rattle.fix_fields.specs.declared.walk.Field.{Field}
use Rattle.fix_orders.proofs.Messages.{first_is_type, some_field}
use Rattle.fix_orders.proofs.read.type_text.Goals as goal

pub returns-in-Some : goal.returns-in-Some
returns-in-Some c = λ listed has.
    let bytes = c.args.bytes.now in
    let are = c.fields.ensures.places listed has in
    let kind = has.1.parts.4.fields.kind in
    let P : List Field → Type 0 = λ fs. AllByRecursion (IsPlace bytes) fs in
    first_is_type bytes c.fields.result c.next.new.self c.in-Some.field listed kind.1 kind.0
    c.text_at.result.now c.in-Some.ensures.steps are.said kind.3
    (c.text_at.ensures (subst P c.in-Some.ensures.steps are.each).0)

pub returns-in-None : goal.returns-in-None
returns-in-None c = λ listed has.
    let kind = has.1.parts.4.fields.kind in
    absurd (some_field c.args.bytes.now c.fields.result listed kind.1 kind.0
    c.in-None.ensures.steps.0 (c.fields.ensures.places listed has).said kind.3)
