-- Each field is short, and the fields are those of the refusal.
use Rattle.std.proofs.Common.{◌<◌, ◌^◌, ◌∙◌, arith, [], ◌∷◌, ◌++◌, refl}
use Rattle.fix_orders.specs.Faults.{values_of}
use Rattle.fix_orders.specs.Writing.{opening_fields, reply_fields}
use Rattle.fix_orders.proofs.ShortFields.{parts_are_fields}
use Rattle.fix_orders.proofs.Rejects.{digits_are_short, short_room, reply_parts}
use Rattle.fix_orders.proofs.Rejects.{text_fields, text_parts, both_parts}
use Rattle.fix_orders.proofs.OrderValues.{order_shorts, order_id, short_as}
use Rattle.fix_orders.proofs.OrderRejects.{execution_fields, execution_parts, result_fields}
use Rattle.fix_orders.proofs.OrderRejects.{result_parts, reason_fields, reason_parts}
use Rattle.fix_orders.proofs.OrderRejects.{value_fields, value_parts, zero_fields}
use Rattle.fix_orders.proofs.OrderRejects.{zero_parts, to_execution, to_state, to_values, to_zeros}
use Rattle.fix_orders.proofs.OrderRejects.{to_execution_parts, to_state_parts, to_values_parts}
use Rattle.fix_orders.proofs.OrderRejects.{to_zeros_parts, order_is}
use Rattle.fix_orders.proofs.order_reject.write_reject_order.Goals as goal

pub put_reply-requires : goal.put_reply-requires
put_reply-requires c =
    let r = c.requires.accepted in
    let shorts = order_shorts c.args.bytes.now c.args.frame.now c.args.order.now r in
    let i = short_as _ _ (order_id c.args.bytes.now c.args.frame.now c.args.order.now r) shorts.id in
    record {
      room = short_room 56 c.args.stamp.now [] (reply_fields c.args.order.now.id)
          c.put_opening.new.to c.put_opening.ensures.stamp c.put_opening.ensures.put tt
          (reply_parts c.args.order.now.id i) (omega arith);
    }

pub put_execution-requires : goal.put_execution-requires
put_execution-requires c =
    let r = c.requires.accepted in
    let shorts = order_shorts c.args.bytes.now c.args.frame.now c.args.order.now r in
    let open_ = opening_fields (56 ∷ []) c.args.stamp.now in
    let i = short_as _ _ (order_id c.args.bytes.now c.args.frame.now c.args.order.now r) shorts.id in
    let fits : c.args.stamp.now.seq < 2 ^ 32 = omega (arith, c.put_opening.ensures.stamp.number.most) in
    let h1 = c.put_reply.ensures open_ c.put_opening.ensures.put in
    record {
      room = short_room 56 c.args.stamp.now (reply_fields c.args.order.now.id) (execution_fields c.args.stamp.now.seq)
          c.put_reply.new.to c.put_opening.ensures.stamp h1 (reply_parts c.args.order.now.id i)
          (execution_parts c.args.stamp.now.seq _ fits refl) (omega arith);
    }

pub put_all-requires-clause-parts : goal.put_all-requires-clause-parts
put_all-requires-clause-parts c = parts_are_fields result_fields result_parts

pub put_all-requires-clause-room : goal.put_all-requires-clause-room
put_all-requires-clause-room c =
    let r = c.requires.accepted in
    let shorts = order_shorts c.args.bytes.now c.args.frame.now c.args.order.now r in
    let open_ = opening_fields (56 ∷ []) c.args.stamp.now in
    let i = short_as _ _ (order_id c.args.bytes.now c.args.frame.now c.args.order.now r) shorts.id in
    let fits : c.args.stamp.now.seq < 2 ^ 32 = omega (arith, c.put_opening.ensures.stamp.number.most) in
    let h1 = c.put_reply.ensures open_ c.put_opening.ensures.put in
    let hx = c.put_execution.ensures (open_ ++ reply_fields c.args.order.now.id) h1 in
    short_room 56 c.args.stamp.now (to_execution c.args.order.now.id c.args.stamp.now.seq) result_fields
    c.put_execution.new.to c.put_opening.ensures.stamp hx (to_execution_parts c.args.order.now.id c.args.stamp.now.seq i fits)
    result_parts (omega arith)

pub put_all-requires-2-clause-parts : goal.put_all-requires-2-clause-parts
put_all-requires-2-clause-parts c =
    let d = digits_are_short c.args.reason c.as_bytes.result.now (omega arith)
    (c.as_bytes.ensures.value ∙ c.format.ensures.text) in
    parts_are_fields (reason_fields c.as_bytes.result.now) (reason_parts c.as_bytes.result.now d)

pub put_all-requires-2-clause-room : goal.put_all-requires-2-clause-room
put_all-requires-2-clause-room c =
    let r = c.requires.accepted in
    let shorts = order_shorts c.args.bytes.now c.args.frame.now c.args.order.now r in
    let open_ = opening_fields (56 ∷ []) c.args.stamp.now in
    let i = short_as _ _ (order_id c.args.bytes.now c.args.frame.now c.args.order.now r) shorts.id in
    let fits : c.args.stamp.now.seq < 2 ^ 32 = omega (arith, c.put_opening.ensures.stamp.number.most) in
    let d = digits_are_short c.args.reason c.as_bytes.result.now (omega arith)
    (c.as_bytes.ensures.value ∙ c.format.ensures.text) in
    let h1 = c.put_reply.ensures open_ c.put_opening.ensures.put in
    let hx = c.put_execution.ensures (open_ ++ reply_fields c.args.order.now.id) h1 in
    let ha = c.put_all.ensures (open_ ++ to_execution c.args.order.now.id c.args.stamp.now.seq) hx in
    short_room 56 c.args.stamp.now (to_execution c.args.order.now.id c.args.stamp.now.seq ++ result_fields)
    (reason_fields c.as_bytes.result.now) c.put_all.new.to c.put_opening.ensures.stamp ha
    (both_parts (to_execution c.args.order.now.id c.args.stamp.now.seq) result_fields
    (to_execution_parts c.args.order.now.id c.args.stamp.now.seq i fits) result_parts)
    (reason_parts c.as_bytes.result.now d) (omega arith)

pub put_all-requires-3-clause-parts : goal.put_all-requires-3-clause-parts
put_all-requires-3-clause-parts c =
    let r = c.requires.accepted in
    let shorts = order_shorts c.args.bytes.now c.args.frame.now c.args.order.now r in
    let slots = c.slots_of-slots.ensures r.listed r.stands in
    let values = value_parts c.first.result.now c.first-2.result.now c.first-3.result.now
    c.first-4.result.now
    (short_as _ _ (c.first.ensures (values_of 1 r.listed) (c.at.ensures r.listed slots))
    shorts.account)
    (short_as _ _ (c.first-2.ensures (values_of 55 r.listed) (c.at-2.ensures r.listed slots))
    shorts.symbol)
    (short_as _ _ (c.first-3.ensures (values_of 54 r.listed) (c.at-3.ensures r.listed slots))
    shorts.side)
    (short_as _ _ (c.first-4.ensures (values_of 38 r.listed) (c.at-4.ensures r.listed slots))
    shorts.quantity) in
    parts_are_fields (value_fields c.first.result.now c.first-2.result.now c.first-3.result.now
    c.first-4.result.now) values

pub put_all-requires-3-clause-room : goal.put_all-requires-3-clause-room
put_all-requires-3-clause-room c =
    let r = c.requires.accepted in
    let shorts = order_shorts c.args.bytes.now c.args.frame.now c.args.order.now r in
    let open_ = opening_fields (56 ∷ []) c.args.stamp.now in
    let i = short_as _ _ (order_id c.args.bytes.now c.args.frame.now c.args.order.now r) shorts.id in
    let fits : c.args.stamp.now.seq < 2 ^ 32 = omega (arith, c.put_opening.ensures.stamp.number.most) in
    let d = digits_are_short c.args.reason c.as_bytes.result.now (omega arith)
    (c.as_bytes.ensures.value ∙ c.format.ensures.text) in
    let slots = c.slots_of-slots.ensures r.listed r.stands in
    let values = value_parts c.first.result.now c.first-2.result.now c.first-3.result.now
    c.first-4.result.now
    (short_as _ _ (c.first.ensures (values_of 1 r.listed) (c.at.ensures r.listed slots))
    shorts.account)
    (short_as _ _ (c.first-2.ensures (values_of 55 r.listed) (c.at-2.ensures r.listed slots))
    shorts.symbol)
    (short_as _ _ (c.first-3.ensures (values_of 54 r.listed) (c.at-3.ensures r.listed slots))
    shorts.side)
    (short_as _ _ (c.first-4.ensures (values_of 38 r.listed) (c.at-4.ensures r.listed slots))
    shorts.quantity) in
    let h1 = c.put_reply.ensures open_ c.put_opening.ensures.put in
    let hx = c.put_execution.ensures (open_ ++ reply_fields c.args.order.now.id) h1 in
    let ha = c.put_all.ensures (open_ ++ to_execution c.args.order.now.id c.args.stamp.now.seq) hx in
    let h2 = c.put_all-2.ensures (open_ ++ to_execution c.args.order.now.id c.args.stamp.now.seq ++ result_fields) ha in
    short_room 56 c.args.stamp.now (to_state c.args.order.now.id c.args.stamp.now.seq c.as_bytes.result.now)
    (value_fields c.first.result.now c.first-2.result.now c.first-3.result.now
    c.first-4.result.now) c.put_all-2.new.to
    c.put_opening.ensures.stamp h2 (to_state_parts c.args.order.now.id c.args.stamp.now.seq c.as_bytes.result.now i fits d) values (omega arith)

pub put_all-requires-4-clause-parts : goal.put_all-requires-4-clause-parts
put_all-requires-4-clause-parts c =
    parts_are_fields zero_fields zero_parts

pub put_all-requires-4-clause-room : goal.put_all-requires-4-clause-room
put_all-requires-4-clause-room c =
    let r = c.requires.accepted in
    let shorts = order_shorts c.args.bytes.now c.args.frame.now c.args.order.now r in
    let open_ = opening_fields (56 ∷ []) c.args.stamp.now in
    let i = short_as _ _ (order_id c.args.bytes.now c.args.frame.now c.args.order.now r) shorts.id in
    let fits : c.args.stamp.now.seq < 2 ^ 32 = omega (arith, c.put_opening.ensures.stamp.number.most) in
    let d = digits_are_short c.args.reason c.as_bytes.result.now (omega arith)
    (c.as_bytes.ensures.value ∙ c.format.ensures.text) in
    let slots = c.slots_of-slots.ensures r.listed r.stands in
    let values = value_parts c.first.result.now c.first-2.result.now c.first-3.result.now
    c.first-4.result.now
    (short_as _ _ (c.first.ensures (values_of 1 r.listed) (c.at.ensures r.listed slots))
    shorts.account)
    (short_as _ _ (c.first-2.ensures (values_of 55 r.listed) (c.at-2.ensures r.listed slots))
    shorts.symbol)
    (short_as _ _ (c.first-3.ensures (values_of 54 r.listed) (c.at-3.ensures r.listed slots))
    shorts.side)
    (short_as _ _ (c.first-4.ensures (values_of 38 r.listed) (c.at-4.ensures r.listed slots))
    shorts.quantity) in
    let h1 = c.put_reply.ensures open_ c.put_opening.ensures.put in
    let hx = c.put_execution.ensures (open_ ++ reply_fields c.args.order.now.id) h1 in
    let ha = c.put_all.ensures (open_ ++ to_execution c.args.order.now.id c.args.stamp.now.seq) hx in
    let h2 = c.put_all-2.ensures (open_ ++ to_execution c.args.order.now.id c.args.stamp.now.seq ++ result_fields) ha in
    let h3 = c.put_all-3.ensures (open_ ++ to_state c.args.order.now.id c.args.stamp.now.seq c.as_bytes.result.now) h2 in
    short_room 56 c.args.stamp.now (to_values c.args.order.now.id c.args.stamp.now.seq c.as_bytes.result.now
    c.first.result.now c.first-2.result.now c.first-3.result.now
    c.first-4.result.now) zero_fields c.put_all-3.new.to
    c.put_opening.ensures.stamp h3 (to_values_parts c.args.order.now.id c.args.stamp.now.seq c.as_bytes.result.now
    c.first.result.now c.first-2.result.now c.first-3.result.now
    c.first-4.result.now i fits d values) zero_parts (omega arith)

pub put_all-requires-5-clause-parts : goal.put_all-requires-5-clause-parts
put_all-requires-5-clause-parts c =
    parts_are_fields (text_fields c.args.text.now) (text_parts c.args.text.now c.requires.text)

pub put_all-requires-5-clause-room : goal.put_all-requires-5-clause-room
put_all-requires-5-clause-room c =
    let r = c.requires.accepted in
    let shorts = order_shorts c.args.bytes.now c.args.frame.now c.args.order.now r in
    let open_ = opening_fields (56 ∷ []) c.args.stamp.now in
    let i = short_as _ _ (order_id c.args.bytes.now c.args.frame.now c.args.order.now r) shorts.id in
    let fits : c.args.stamp.now.seq < 2 ^ 32 = omega (arith, c.put_opening.ensures.stamp.number.most) in
    let d = digits_are_short c.args.reason c.as_bytes.result.now (omega arith)
    (c.as_bytes.ensures.value ∙ c.format.ensures.text) in
    let slots = c.slots_of-slots.ensures r.listed r.stands in
    let values = value_parts c.first.result.now c.first-2.result.now c.first-3.result.now
    c.first-4.result.now
    (short_as _ _ (c.first.ensures (values_of 1 r.listed) (c.at.ensures r.listed slots))
    shorts.account)
    (short_as _ _ (c.first-2.ensures (values_of 55 r.listed) (c.at-2.ensures r.listed slots))
    shorts.symbol)
    (short_as _ _ (c.first-3.ensures (values_of 54 r.listed) (c.at-3.ensures r.listed slots))
    shorts.side)
    (short_as _ _ (c.first-4.ensures (values_of 38 r.listed) (c.at-4.ensures r.listed slots))
    shorts.quantity) in
    let h1 = c.put_reply.ensures open_ c.put_opening.ensures.put in
    let hx = c.put_execution.ensures (open_ ++ reply_fields c.args.order.now.id) h1 in
    let ha = c.put_all.ensures (open_ ++ to_execution c.args.order.now.id c.args.stamp.now.seq) hx in
    let h2 = c.put_all-2.ensures (open_ ++ to_execution c.args.order.now.id c.args.stamp.now.seq ++ result_fields) ha in
    let h3 = c.put_all-3.ensures (open_ ++ to_state c.args.order.now.id c.args.stamp.now.seq c.as_bytes.result.now) h2 in
    let h4 = c.put_all-4.ensures (open_ ++ to_values c.args.order.now.id c.args.stamp.now.seq c.as_bytes.result.now
    c.first.result.now c.first-2.result.now c.first-3.result.now
    c.first-4.result.now) h3 in
    short_room 56 c.args.stamp.now (to_zeros c.args.order.now.id c.args.stamp.now.seq c.as_bytes.result.now
    c.first.result.now c.first-2.result.now c.first-3.result.now
    c.first-4.result.now) (text_fields c.args.text.now)
    c.put_all-4.new.to c.put_opening.ensures.stamp h4 (to_zeros_parts c.args.order.now.id c.args.stamp.now.seq c.as_bytes.result.now
    c.first.result.now c.first-2.result.now c.first-3.result.now
    c.first-4.result.now i fits d values) (text_parts c.args.text.now c.requires.text)
    (omega arith)

pub returns : goal.returns
returns c = λ listed has.
    let open_ = opening_fields (56 ∷ []) c.args.stamp.now in
    let slots = c.slots_of-slots.ensures listed has in
    let h1 = c.put_reply.ensures open_ c.put_opening.ensures.put in
    let hx = c.put_execution.ensures (open_ ++ reply_fields c.args.order.now.id) h1 in
    let ha = c.put_all.ensures (open_ ++ to_execution c.args.order.now.id c.args.stamp.now.seq) hx in
    let h2 = c.put_all-2.ensures (open_ ++ to_execution c.args.order.now.id c.args.stamp.now.seq ++ result_fields) ha in
    let h3 = c.put_all-3.ensures (open_ ++ to_state c.args.order.now.id c.args.stamp.now.seq c.as_bytes.result.now) h2 in
    let h4 = c.put_all-4.ensures (open_ ++ to_values c.args.order.now.id c.args.stamp.now.seq c.as_bytes.result.now
    c.first.result.now c.first-2.result.now c.first-3.result.now
    c.first-4.result.now) h3 in
    let h5 = c.put_all-5.ensures (open_ ++ to_zeros c.args.order.now.id c.args.stamp.now.seq c.as_bytes.result.now
    c.first.result.now c.first-2.result.now c.first-3.result.now
    c.first-4.result.now) h4 in
    order_is listed c.args.stamp.now c.args.reason c.args.order.now.id c.args.order.now.id c.as_bytes.result.now
    c.first.result.now c.first-2.result.now c.first-3.result.now
    c.first-4.result.now c.args.text.now c.put_all-5.new.to
    refl (c.as_bytes.ensures.value ∙ c.format.ensures.text)
    (c.first.ensures (values_of 1 listed) (c.at.ensures listed slots))
    (c.first-2.ensures (values_of 55 listed) (c.at-2.ensures listed slots))
    (c.first-3.ensures (values_of 54 listed) (c.at-3.ensures listed slots))
    (c.first-4.ensures (values_of 38 listed) (c.at-4.ensures listed slots)) h5
