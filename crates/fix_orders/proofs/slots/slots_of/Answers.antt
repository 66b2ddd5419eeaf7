-- One field more, and all of them.
use Rattle.std.proofs.Common.{List, subst, map}
use Rattle.std.proofs.lemmas.Iterator.Consumers.{YieldsList-so_far, YieldsList-turn, YieldsList-end}
use Rattle.fix_fields.specs.Fields.{FieldValue}
use Rattle.fix_fields.specs.Places.{field_at}
use Rattle.fix_fields.proofs.WalkPlaces.{walked}
use Rattle.fix_orders.specs.Slotted.{SlotsHave}
use Rattle.fix_orders.proofs.Walks.{next_place, next_said, all_said}
use Rattle.fix_orders.proofs.slots.slots_of.Goals as goal

pub loop-field-preserved : goal.loop-field-preserved
loop-field-preserved c =
    let listed = c.requires.sound.0 in
    let bytes = c.args.bytes.now in
    let walk = walked _ c.fields-field-items.result
    c.into_iter-field-iterator.ensures.into_iter_gives in
    let turn = YieldsList-turn walk c.loop-field.yielded _ c.loop-field.yielded_by _ _
    c.in-Some.field c.in-Some.is c.next.ensures.steps in
    let place = next_place bytes c.fields-field-items.result c.loop-field.yielded listed
    c.in-Some.field (c.fields-field-items.ensures.places listed c.requires.sound.1)
    (YieldsList-so_far walk c.loop-field.yielded _ c.loop-field.yielded_by) turn.0 turn.1 in
    let P : List FieldValue → Type 0 = λ fs. SlotsHave c.add.new.self fs in
    subst P (next_said bytes c.loop-field.yielded c.in-Some.field c.text_at.result.now
    (c.text_at.ensures place))
    (c.add.ensures (map (field_at bytes) c.loop-field.yielded) c.loop-field.invariant)

pub returns : goal.returns
returns c = λ listed has.
    let end = YieldsList-end (walked _ c.fields-field-items.result
    c.into_iter-field-iterator.ensures.into_iter_gives)
    c.loop-field.yielded _ c.loop-field.yielded_by _ _ c.in-None.is c.next.ensures.steps in
    let P : List FieldValue → Type 0 = λ fs. SlotsHave c.loop-field.slots fs in
    subst P (all_said c.args.bytes.now c.fields-field-items.result c.loop-field.yielded listed
    (c.fields-field-items.ensures.places listed has) end.0) c.loop-field.invariant
