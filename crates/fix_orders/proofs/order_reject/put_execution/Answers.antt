-- G before the digits.
use Rattle.std.proofs.Common.{ℕ, ◌≤◌, List, ◌++◌, [], ◌∷◌, length, arith, subst, sym, refl, decimal}
use Rattle.fix_fields.specs.Fields.{field}
use Rattle.fix_orders.specs.Put.{HasPut, HasRoom}
use Rattle.fix_orders.proofs.ShortFields.{parts_are_fields}
use Rattle.fix_orders.proofs.OrderRejects.{few_digits, execution_is, execution_parts}
use Rattle.fix_orders.proofs.order_reject.put_execution.Goals as goal

pub write_digits-from-requires : goal.write_digits-from-requires
write_digits-from-requires c =
    let few = few_digits c.args.number (omega arith) in
    rw c.from.ensures (omega (arith, few), omega arith)

pub overflow_sub-from : goal.overflow_sub-from
overflow_sub-from c =
    let few : length (decimal c.from.result) ≤ 10 =
    rw c.from.ensures (few_digits c.args.number (omega arith)) in
    omega (arith, few, c.write_digits-from.ensures.start)

pub put_all-requires-clause-parts : goal.put_all-requires-clause-parts
put_all-requires-clause-parts c =
    parts_are_fields (field 17 _ ∷ []) (execution_parts c.args.number _ (omega arith)
    (execution_is c.args.number c.from.result c.write_digits-from.result
    c.write_digits-from.new.buf _ c.from.ensures (omega arith)
    (search (arith, c.write_digits-from.auto.buf)) c.write_digits-from.ensures.start
    c.write_digits-from.ensures.written refl))

pub put_all-requires-clause-room : goal.put_all-requires-clause-room
put_all-requires-clause-room c =
    let is = execution_is c.args.number c.from.result c.write_digits-from.result
    c.write_digits-from.new.buf _ c.from.ensures (omega arith)
    (search (arith, c.write_digits-from.auto.buf)) c.write_digits-from.ensures.start
    c.write_digits-from.ensures.written refl in
    let P : List ℕ → Type 0 = λ t. HasRoom (field 17 t ∷ []) c.args.to.now in
    subst P (sym is) c.requires.room

pub returns : goal.returns
returns c = λ fields has.
    let is = execution_is c.args.number c.from.result c.write_digits-from.result
    c.write_digits-from.new.buf _ c.from.ensures (omega arith)
    (search (arith, c.write_digits-from.auto.buf)) c.write_digits-from.ensures.start
    c.write_digits-from.ensures.written refl in
    let P : List ℕ → Type 0 = λ t. HasPut (fields ++ field 17 t ∷ []) c.put_all.new.to in
    subst P is (c.put_all.ensures fields has)
