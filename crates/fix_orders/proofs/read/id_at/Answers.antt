-- The one value is an id.
use Rattle.std.proofs.Common.{◌≡◌, ℕ, List, subst, sym, ◌∙◌}
use Rattle.std.specs.Prelude.{None}
use Rattle.fix_orders.specs.declared.table.ReadAs.TheVariants.{Identifier}
use Rattle.fix_orders.specs.Faults.{text_reason, values_of}
use Rattle.fix_orders.specs.Table.{row_at}
use Rattle.fix_orders.proofs.ReadLemmas.{id_text}
use Rattle.fix_orders.proofs.read.id_at.Goals as goal

pub id_in-requires : goal.id_in-requires
id_in-requires c =
    let checked = c.requires.checked in
    let first = c.first.ensures (values_of (row_at c.args.place).tag checked.fields)
    (c.at.ensures checked.fields checked.has) in
    let P : List ℕ → Type 0 = λ t. text_reason Identifier t ≡ None in
    subst P (sym first)
    (id_text c.args.kind c.args.slots.now c.args.place checked c.requires.place c.requires.id)

pub returns : goal.returns
returns c = λ listed has.
    c.id_in.ensures
    ∙ c.first.ensures (values_of (row_at c.args.place).tag listed) (c.at.ensures listed has)
