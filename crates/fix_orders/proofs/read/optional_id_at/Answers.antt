-- The one value, where there is one, is an id.
use Rattle.std.proofs.Common.{sym, ap, ◌∙◌}
use Rattle.std.specs.Prelude.{Some}
use Rattle.fix_orders.specs.Faults.{values_of}
use Rattle.fix_orders.specs.Reading.{optional_value}
use Rattle.fix_orders.specs.Table.{row_at}
use Rattle.fix_orders.proofs.ReadLemmas.{optional_reason, once_text, often_text}
use Rattle.fix_orders.proofs.read.optional_id_at.Goals as goal

pub id_in-requires : goal.id_in-requires
id_in-requires c =
    let checked = c.requires.checked in
    once_text (values_of (row_at c.args.place).tag checked.fields) c.in-Once.text.now
    (optional_reason c.args.kind c.args.slots.now c.args.place checked c.requires.place
    c.requires.id) (c.in-Once.ensures checked.fields checked.has)

pub id_in-requires-in-Often : goal.id_in-requires-in-Often
id_in-requires-in-Often c =
    let checked = c.requires.checked in
    let has = c.in-Often.ensures checked.fields checked.has in
    absurd (often_text (values_of (row_at c.args.place).tag checked.fields) c.in-Often.text.now
    has.0 has.1
    (optional_reason c.args.kind c.args.slots.now c.args.place checked c.requires.place
    c.requires.id) has.2)

pub returns-in-Absent : goal.returns-in-Absent
returns-in-Absent c = λ listed has. ap optional_value (sym (c.in-Absent.ensures listed has))

pub returns-in-Once : goal.returns-in-Once
returns-in-Once c = λ listed has.
    ap Some c.id_in.ensures ∙ ap optional_value (sym (c.in-Once.ensures listed has))

pub returns-in-Often : goal.returns-in-Often
returns-in-Often c = λ listed has.
    ap Some c.id_in-in-Often.ensures ∙ ap optional_value (sym (c.in-Often.ensures listed has).2)
