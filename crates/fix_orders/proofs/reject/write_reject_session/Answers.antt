-- The type may be long, and all others are short.
use Rattle.std.proofs.Common.{◌∙◌, arith, [], ◌∷◌, ◌++◌}
use Rattle.fix_orders.specs.Writing.{opening_fields}
use Rattle.fix_orders.proofs.ShortFields.{parts_are_fields}
use Rattle.fix_orders.proofs.Rejects.{digits_are_short, short_room, type_is_written, session_first}
use Rattle.fix_orders.proofs.Rejects.{session_parts, session_fields, session_room}
use Rattle.fix_orders.proofs.Rejects.{session_is}
use Rattle.fix_orders.proofs.reject.write_reject_session.Goals as goal

pub put_all-requires-clause-parts : goal.put_all-requires-clause-parts
put_all-requires-clause-parts c =
    parts_are_fields (session_first c.as_bytes.result.now c.as_bytes-2.result.now)
    (session_parts c.as_bytes.result.now c.as_bytes-2.result.now
    (digits_are_short c.args.ref_seq _ (omega arith)
    (c.as_bytes.ensures.value ∙ c.format.ensures.text))
    (digits_are_short c.args.fault.now.tag _ (omega arith)
    (c.as_bytes-2.ensures.value ∙ c.format-2.ensures.text)))

pub put_all-requires-clause-room : goal.put_all-requires-clause-room
put_all-requires-clause-room c =
    short_room 51 c.args.stamp.now [] (session_first c.as_bytes.result.now c.as_bytes-2.result.now)
    c.put_opening.new.to c.put_opening.ensures.stamp c.put_opening.ensures.put tt
    (session_parts c.as_bytes.result.now c.as_bytes-2.result.now
    (digits_are_short c.args.ref_seq _ (omega arith)
    (c.as_bytes.ensures.value ∙ c.format.ensures.text))
    (digits_are_short c.args.fault.now.tag _ (omega arith)
    (c.as_bytes-2.ensures.value ∙ c.format-2.ensures.text))) (omega arith)

pub put_all-requires-2-clause-parts : goal.put_all-requires-2-clause-parts
put_all-requires-2-clause-parts c =
    session_fields c.args.kind.now c.as_bytes-3.result.now
    (type_is_written c.args.kind.now c.requires.kind)
    (digits_are_short c.args.fault.now.reason _ (omega arith)
    (c.as_bytes-3.ensures.value ∙ c.format-3.ensures.text))

pub put_all-requires-2-clause-room : goal.put_all-requires-2-clause-room
put_all-requires-2-clause-room c =
    session_room c.args.stamp.now c.args.ref_seq c.args.fault.now.tag c.args.fault.now.reason
    c.as_bytes.result.now c.as_bytes-2.result.now c.args.kind.now c.as_bytes-3.result.now
    c.put_all.new.to c.put_opening.ensures.stamp
    (c.put_all.ensures (opening_fields (51 ∷ []) c.args.stamp.now) c.put_opening.ensures.put)
    (omega arith) (c.as_bytes.ensures.value ∙ c.format.ensures.text)
    (omega arith) (c.as_bytes-2.ensures.value ∙ c.format-2.ensures.text)
    (omega arith) (c.as_bytes-3.ensures.value ∙ c.format-3.ensures.text)
    (type_is_written c.args.kind.now c.requires.kind)

pub returns : goal.returns
returns c =
    session_is c.args.stamp.now c.args.ref_seq c.args.fault.now.tag c.args.fault.now.reason
    c.as_bytes.result.now c.as_bytes-2.result.now c.args.kind.now c.as_bytes-3.result.now
    c.put_all-2.new.to (c.as_bytes.ensures.value ∙ c.format.ensures.text)
    (c.as_bytes-2.ensures.value ∙ c.format-2.ensures.text)
    (c.as_bytes-3.ensures.value ∙ c.format-3.ensures.text)
    (c.put_all-2.ensures (opening_fields (51 ∷ []) c.args.stamp.now
    ++ session_first c.as_bytes.result.now c.as_bytes-2.result.now)
    (c.put_all.ensures (opening_fields (51 ∷ []) c.args.stamp.now) c.put_opening.ensures.put))
