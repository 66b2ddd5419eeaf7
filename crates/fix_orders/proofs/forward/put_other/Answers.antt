use Rattle.std.proofs.Common.{sym, ◌∙◌}
use Rattle.fix_fields.specs.Places.{field_at}
use Rattle.fix_orders.proofs.OtherFields.{passed, left_out}
use Rattle.fix_orders.proofs.forward.put_other.Goals as goal

-- the field is passed on
pub returns-then-not-is_own : goal.returns-then-not-is_own
returns-then-not-is_own c =
    let f = field_at c.args.bytes.now c.args.field in
    passed c.args.to.now c.put.new.self f c.text_at.result.now
    (c.text_at.ensures c.requires.place) (sym (c.is_own.ensures f.value) ∙ c.if-not-is_own.true)
    c.put.ensures

-- the forward has one of its own
pub returns-else-not-is_own : goal.returns-else-not-is_own
returns-else-not-is_own c =
    let f = field_at c.args.bytes.now c.args.field in
    left_out c.args.to.now f (sym (c.is_own.ensures f.value) ∙ c.if-not-is_own.false)
