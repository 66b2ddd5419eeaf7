-- The first fields, then the others.
use Rattle.std.proofs.Common.{[], ◌∷◌}
use Rattle.fix_orders.specs.Writing.{opening_fields}
use Rattle.fix_orders.proofs.ShortFields.{is_begun}
use Rattle.fix_orders.proofs.Passed.{forward_room, forward_put}
use Rattle.fix_orders.proofs.forward.write_forward.Goals as goal

pub put_others-requires-clause-sound : goal.put_others-requires-clause-sound
put_others-requires-clause-sound c =
    (c.requires.accepted.1.listed, c.requires.accepted.1.stands)

pub put_others-requires-clause-begun : goal.put_others-requires-clause-begun
put_others-requires-clause-begun c =
    is_begun (opening_fields (c.type_byte.result ∷ []) c.args.stamp.now) _ c.put_opening.ensures.put

pub put_others-requires-clause-room : goal.put_others-requires-clause-room
put_others-requires-clause-room c =
    forward_room c.type_byte.result c.args.stamp.now _ c.put_opening.ensures.stamp c.put_opening.ensures.put

pub returns : goal.returns
returns c = λ listed has.
    forward_put c.type_byte.result c.args.stamp.now listed c.put_opening.new.to c.put_others.new.to
    c.put_opening.ensures.put (c.type_byte.ensures.is listed has) (c.put_others.ensures listed has)
