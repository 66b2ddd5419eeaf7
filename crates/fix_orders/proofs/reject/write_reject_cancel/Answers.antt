-- Each field is short.
use Rattle.std.proofs.Common.{List, ℕ, ◌∙◌, sym, subst, arith, [], ◌∷◌, ◌++◌}
use Rattle.fix_orders.specs.Put.{IsShort}
use Rattle.fix_orders.specs.Writing.{opening_fields, reply_fields}
use Rattle.fix_orders.proofs.ShortFields.{parts_are_fields, id_is_short}
use Rattle.fix_orders.proofs.Rejects.{digits_are_short, short_room, cancel_second}
use Rattle.fix_orders.proofs.Rejects.{cancel_codes, text_fields, reply_parts, second_parts}
use Rattle.fix_orders.proofs.Rejects.{code_parts, text_parts, both_parts, cancel_is}
use Rattle.fix_orders.proofs.reject.write_reject_cancel.Goals as goal

pub put_all-requires-clause-parts : goal.put_all-requires-clause-parts
put_all-requires-clause-parts c =
    let P : List ℕ → Type 0 = λ t. IsShort t in
    parts_are_fields (reply_fields c.bytes.result.now)
    (reply_parts c.bytes.result.now (subst P (sym c.bytes.ensures.same) (id_is_short _ c.bytes.ensures.id)))

pub put_all-requires-clause-room : goal.put_all-requires-clause-room
put_all-requires-clause-room c =
    let P : List ℕ → Type 0 = λ t. IsShort t in
    short_room 57 c.args.stamp.now [] (reply_fields c.bytes.result.now)
    c.put_opening.new.to c.put_opening.ensures.stamp c.put_opening.ensures.put tt
    (reply_parts c.bytes.result.now (subst P (sym c.bytes.ensures.same) (id_is_short _ c.bytes.ensures.id)))
    (omega arith)

pub put_all-requires-2-clause-parts : goal.put_all-requires-2-clause-parts
put_all-requires-2-clause-parts c =
    let P : List ℕ → Type 0 = λ t. IsShort t in
    parts_are_fields (cancel_second c.bytes-2.result.now)
    (second_parts c.bytes-2.result.now
    (subst P (sym c.bytes-2.ensures.same) (id_is_short _ c.bytes-2.ensures.id)))

pub put_all-requires-2-clause-room : goal.put_all-requires-2-clause-room
put_all-requires-2-clause-room c =
    let P : List ℕ → Type 0 = λ t. IsShort t in
    let open_ = opening_fields (57 ∷ []) c.args.stamp.now in
    short_room 57 c.args.stamp.now (reply_fields c.bytes.result.now)
    (cancel_second c.bytes-2.result.now) c.put_all.new.to c.put_opening.ensures.stamp
    (c.put_all.ensures open_ c.put_opening.ensures.put)
    (reply_parts c.bytes.result.now (subst P (sym c.bytes.ensures.same) (id_is_short _ c.bytes.ensures.id)))
    (second_parts c.bytes-2.result.now
    (subst P (sym c.bytes-2.ensures.same) (id_is_short _ c.bytes-2.ensures.id))) (omega arith)

pub put_all-requires-3-clause-parts : goal.put_all-requires-3-clause-parts
put_all-requires-3-clause-parts c =
    parts_are_fields (cancel_codes c.as_bytes.result.now c.as_bytes-2.result.now)
    (code_parts c.as_bytes.result.now c.as_bytes-2.result.now
    (digits_are_short c.args.answers _ (omega arith)
    (c.as_bytes.ensures.value ∙ c.format.ensures.text))
    (digits_are_short c.args.reason _ (omega arith)
    (c.as_bytes-2.ensures.value ∙ c.format-2.ensures.text)))

pub put_all-requires-3-clause-room : goal.put_all-requires-3-clause-room
put_all-requires-3-clause-room c =
    let P : List ℕ → Type 0 = λ t. IsShort t in
    let open_ = opening_fields (57 ∷ []) c.args.stamp.now in
    let first = reply_fields c.bytes.result.now in
    let second = cancel_second c.bytes-2.result.now in
    short_room 57 c.args.stamp.now (first ++ second)
    (cancel_codes c.as_bytes.result.now c.as_bytes-2.result.now) c.put_all-2.new.to
    c.put_opening.ensures.stamp
    (c.put_all-2.ensures (open_ ++ first) (c.put_all.ensures open_ c.put_opening.ensures.put))
    (both_parts first second
    (reply_parts c.bytes.result.now (subst P (sym c.bytes.ensures.same) (id_is_short _ c.bytes.ensures.id)))
    (second_parts c.bytes-2.result.now
    (subst P (sym c.bytes-2.ensures.same) (id_is_short _ c.bytes-2.ensures.id))))
    (code_parts c.as_bytes.result.now c.as_bytes-2.result.now
    (digits_are_short c.args.answers _ (omega arith)
    (c.as_bytes.ensures.value ∙ c.format.ensures.text))
    (digits_are_short c.args.reason _ (omega arith)
    (c.as_bytes-2.ensures.value ∙ c.format-2.ensures.text))) (omega arith)

pub put_all-requires-4-clause-parts : goal.put_all-requires-4-clause-parts
put_all-requires-4-clause-parts c =
    parts_are_fields (text_fields c.args.text.now) (text_parts c.args.text.now c.requires.text)

pub put_all-requires-4-clause-room : goal.put_all-requires-4-clause-room
put_all-requires-4-clause-room c =
    let P : List ℕ → Type 0 = λ t. IsShort t in
    let open_ = opening_fields (57 ∷ []) c.args.stamp.now in
    let first = reply_fields c.bytes.result.now in
    let second = cancel_second c.bytes-2.result.now in
    let coded = cancel_codes c.as_bytes.result.now c.as_bytes-2.result.now in
    short_room 57 c.args.stamp.now (first ++ second ++ coded) (text_fields c.args.text.now)
    c.put_all-3.new.to c.put_opening.ensures.stamp
    (c.put_all-3.ensures (open_ ++ first ++ second)
    (c.put_all-2.ensures (open_ ++ first) (c.put_all.ensures open_ c.put_opening.ensures.put)))
    (both_parts (first ++ second) coded
    (both_parts first second
    (reply_parts c.bytes.result.now (subst P (sym c.bytes.ensures.same) (id_is_short _ c.bytes.ensures.id)))
    (second_parts c.bytes-2.result.now
    (subst P (sym c.bytes-2.ensures.same) (id_is_short _ c.bytes-2.ensures.id))))
    (code_parts c.as_bytes.result.now c.as_bytes-2.result.now
    (digits_are_short c.args.answers _ (omega arith)
    (c.as_bytes.ensures.value ∙ c.format.ensures.text))
    (digits_are_short c.args.reason _ (omega arith)
    (c.as_bytes-2.ensures.value ∙ c.format-2.ensures.text))))
    (text_parts c.args.text.now c.requires.text) (omega arith)

pub returns : goal.returns
returns c =
    let open_ = opening_fields (57 ∷ []) c.args.stamp.now in
    let first = reply_fields c.bytes.result.now in
    let second = cancel_second c.bytes-2.result.now in
    let coded = cancel_codes c.as_bytes.result.now c.as_bytes-2.result.now in
    cancel_is c.bytes.result.now c.bytes-2.result.now c.as_bytes.result.now
    c.as_bytes-2.result.now c.args.text.now c.args.id.now c.args.orig.now c.args.stamp.now
    c.args.answers c.args.reason c.put_all-4.new.to c.bytes.ensures.same c.bytes-2.ensures.same
    (c.as_bytes.ensures.value ∙ c.format.ensures.text)
    (c.as_bytes-2.ensures.value ∙ c.format-2.ensures.text)
    (c.put_all-4.ensures (open_ ++ first ++ second ++ coded)
    (c.put_all-3.ensures (open_ ++ first ++ second)
    (c.put_all-2.ensures (open_ ++ first) (c.put_all.ensures open_ c.put_opening.ensures.put))))
