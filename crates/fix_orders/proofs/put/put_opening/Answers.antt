-- The first fields are short.
use Rattle.std.proofs.Common.{List, ℕ, ◌∙◌, sym, subst, arith, [], ◌∷◌}
use Rattle.fix_fields.specs.Fields.{field}
use Rattle.fix_orders.specs.Put.{IsShort}
use Rattle.fix_orders.proofs.ShortFields.{parts_are_fields, number_is_short, id_is_short}
use Rattle.fix_orders.proofs.ShortFields.{has_begun}
use Rattle.fix_orders.proofs.Openings.{opening_rest, rest_parts, rest_room, opening_is}
use Rattle.fix_orders.proofs.put.put_opening.Goals as goal

pub put_all-requires-clause-parts : goal.put_all-requires-clause-parts
put_all-requires-clause-parts c =
    let P : List ℕ → Type 0 = λ t. IsShort t in
    parts_are_fields
    (opening_rest c.bytes.result.now c.as_bytes.result.now c.bytes-2.result.now)
    (rest_parts c.bytes.result.now c.as_bytes.result.now c.bytes-2.result.now
    (subst P (sym c.bytes.ensures.same) (id_is_short _ c.bytes.ensures.id))
    (subst P (sym (c.as_bytes.ensures.value ∙ c.format.ensures.text))
    (number_is_short c.args.stamp.now.seq (omega (arith, c.requires.seq.most))))
    (subst P (sym c.bytes-2.ensures.same) (id_is_short _ c.bytes-2.ensures.id)))

pub put_all-requires-clause-room : goal.put_all-requires-clause-room
put_all-requires-clause-room c =
    let P : List ℕ → Type 0 = λ t. IsShort t in
    rest_room c.args.kind c.bytes.result.now c.as_bytes.result.now c.bytes-2.result.now
    c.begin.new.self c.requires.kind.0 c.begin.ensures
    (rest_parts c.bytes.result.now c.as_bytes.result.now c.bytes-2.result.now
    (subst P (sym c.bytes.ensures.same) (id_is_short _ c.bytes.ensures.id))
    (subst P (sym (c.as_bytes.ensures.value ∙ c.format.ensures.text))
    (number_is_short c.args.stamp.now.seq (omega (arith, c.requires.seq.most))))
    (subst P (sym c.bytes-2.ensures.same) (id_is_short _ c.bytes-2.ensures.id)))

pub returns-clause-put : goal.returns-clause-put
returns-clause-put c =
    opening_is c.args.kind c.bytes.result.now c.as_bytes.result.now c.bytes-2.result.now
    c.args.stamp.now c.put_all.new.to c.bytes.ensures.same
    (c.as_bytes.ensures.value ∙ c.format.ensures.text) c.bytes-2.ensures.same
    (c.put_all.ensures (field 35 (c.args.kind ∷ []) ∷ [])
    (has_begun c.args.kind c.begin.new.self c.begin.ensures))

pub returns-clause-stamp : goal.returns-clause-stamp
returns-clause-stamp c = record {
  number = c.requires.seq;
  target = c.bytes.ensures.id;
  time = c.bytes-2.ensures.id;
}
