-- Two short fields.
use Rattle.std.proofs.Common.{List, ℕ, subst, sym, ◌++◌}
use Rattle.fix_orders.specs.Put.{IsShort, HasPut, HasRoom}
use Rattle.fix_orders.specs.Writing.{reply_fields}
use Rattle.fix_orders.proofs.ShortFields.{parts_are_fields, id_is_short}
use Rattle.fix_orders.proofs.Rejects.{reply_parts}
use Rattle.fix_orders.proofs.order_reject.put_reply.Goals as goal

pub put_all-requires-clause-parts : goal.put_all-requires-clause-parts
put_all-requires-clause-parts c =
    let P : List ℕ → Type 0 = λ t. IsShort t in
    parts_are_fields (reply_fields c.bytes.result.now)
    (reply_parts c.bytes.result.now (subst P (sym c.bytes.ensures.same) (id_is_short _ c.bytes.ensures.id)))

pub put_all-requires-clause-room : goal.put_all-requires-clause-room
put_all-requires-clause-room c =
    let P : List ℕ → Type 0 = λ t. HasRoom (reply_fields t) c.args.to.now in
    subst P (sym c.bytes.ensures.same) c.requires.room

pub returns : goal.returns
returns c = λ fields has.
    let P : List ℕ → Type 0 = λ t. HasPut (fields ++ reply_fields t) c.put_all.new.to in
    subst P c.bytes.ensures.same (c.put_all.ensures fields has)
