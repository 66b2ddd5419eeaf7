use Rattle.std.proofs.Common.{arith, map}
use Rattle.std.proofs.lemmas.Iterator.Consumers.{YieldsList-so_far, YieldsList-turn, YieldsList-end}
use Rattle.fix_fields.specs.Fields.{field_text}
use Rattle.fix_fields.specs.Places.{field_at}
use Rattle.fix_fields.proofs.WalkPlaces.{walked}
use Rattle.fix_orders.proofs.OtherFields.{others_text, next_few, still_begun, next_fits}
use Rattle.fix_orders.proofs.Walks.{fields_few, fields_each, next_place, next_field}
use Rattle.fix_orders.proofs.OtherFields.{next_passed, all_passed}
use Rattle.fix_orders.proofs.forward.put_others.Goals as goal

pub put_other-requires-clause-begun : goal.put_other-requires-clause-begun
put_other-requires-clause-begun c =
    still_begun c.args.to.now c.loop-field.to
    (others_text (map (field_at c.args.bytes.now) c.loop-field.yielded)) c.requires.begun
    c.loop-field.invariant

pub put_other-requires-clause-place : goal.put_other-requires-clause-place
put_other-requires-clause-place c =
    let listed = c.requires.sound.0 in
    let walk = walked _ c.fields-field-items.result
    c.into_iter-field-iterator.ensures.into_iter_gives in
    let turn = YieldsList-turn walk c.loop-field.yielded _ c.loop-field.yielded_by _ _
    c.in-Some.field c.in-Some.is c.next.ensures.steps in
    next_place c.args.bytes.now c.fields-field-items.result c.loop-field.yielded listed
    c.in-Some.field (c.fields-field-items.ensures.places listed c.requires.sound.1)
    (YieldsList-so_far walk c.loop-field.yielded _ c.loop-field.yielded_by) turn.0 turn.1

pub put_other-requires-clause-is_field : goal.put_other-requires-clause-is_field
put_other-requires-clause-is_field c =
    let listed = c.requires.sound.0 in
    let walk = walked _ c.fields-field-items.result
    c.into_iter-field-iterator.ensures.into_iter_gives in
    let turn = YieldsList-turn walk c.loop-field.yielded _ c.loop-field.yielded_by _ _
    c.in-Some.field c.in-Some.is c.next.ensures.steps in
    next_field c.args.bytes.now c.fields-field-items.result c.loop-field.yielded listed
    c.in-Some.field (c.fields-field-items.ensures.places listed c.requires.sound.1)
    (YieldsList-so_far walk c.loop-field.yielded _ c.loop-field.yielded_by) turn.0 turn.1
    (fields_each c.args.bytes.now c.args.frame.now listed c.requires.sound.1)

pub put_other-requires-clause-room : goal.put_other-requires-clause-room
put_other-requires-clause-room c =
    let listed = c.requires.sound.0 in
    let bytes = c.args.bytes.now in
    let walk = walked _ c.fields-field-items.result
    c.into_iter-field-iterator.ensures.into_iter_gives in
    let turn = YieldsList-turn walk c.loop-field.yielded _ c.loop-field.yielded_by _ _
    c.in-Some.field c.in-Some.is c.next.ensures.steps in
    let few = next_few bytes c.fields-field-items.result c.loop-field.yielded listed
    c.in-Some.field (c.fields-field-items.ensures.places listed c.requires.sound.1)
    (YieldsList-so_far walk c.loop-field.yielded _ c.loop-field.yielded_by) turn.0 turn.1 in
    next_fits c.args.to.now c.loop-field.to
    (others_text (map (field_at bytes) c.loop-field.yielded))
    (field_text (field_at bytes c.in-Some.field)) c.requires.begun c.requires.room
    c.loop-field.invariant
    (omega (arith, few, fields_few bytes c.args.frame.now listed c.requires.sound.1))

pub loop-field-preserved : goal.loop-field-preserved
loop-field-preserved c =
    next_passed c.args.to.now c.loop-field.to c.put_other.new.to c.args.bytes.now
    c.loop-field.yielded c.in-Some.field c.loop-field.invariant c.put_other.ensures

-- all fields were walked
pub returns : goal.returns
returns c = λ listed has.
    let end = YieldsList-end (walked _ c.fields-field-items.result
    c.into_iter-field-iterator.ensures.into_iter_gives)
    c.loop-field.yielded _ c.loop-field.yielded_by _ _ c.in-None.is c.next.ensures.steps in
    all_passed c.args.to.now c.loop-field.to c.args.bytes.now c.fields-field-items.result
    c.loop-field.yielded listed (c.fields-field-items.ensures.places listed has) end.0
    c.loop-field.invariant
