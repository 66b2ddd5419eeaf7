-- The sender of an order that was read stands in what is read of its head.
use Rattle.std.proofs.Common.{◌≡◌, ℕ, List, [], ◌∷◌, length, refl, ap, ◌∙◌, arith}
use Rattle.std.proofs.Common.{Bool, true, false, ◌||◌, ◌==◌}
use Rattle.std.specs.Prelude.{Some, None, Ok, Err, not, nat_lt, if◌then◌else◌}
use Rattle.std.specs.List.{list_all}
use Rattle.std.specs.Result.{result_ok}
use Rattle.fix_fields.specs.Fields.{FieldValue}
use Rattle.fix_fields.specs.Numbers.{is_printable}
use Rattle.fix_fields.specs.declared.number.Spelling.TheVariants.{Form, Range}
use Rattle.fix_orders.specs.declared.kind.Kind.TheVariants.{NewOrderSingle}
use Rattle.fix_orders.specs.declared.message.Message.TheVariants as message
use Rattle.fix_orders.specs.declared.message.NewOrder.{NewOrder}
use Rattle.fix_orders.specs.declared.table.ReadAs.TheVariants.{Identifier}
use Rattle.fix_orders.specs.Envelopes.{envelope_of, id_in}
use Rattle.fix_orders.specs.Faults.{values_of, first_value, spelling_reason, values_reason}
use Rattle.fix_orders.specs.Reading.{read_of}
use Rattle.fix_orders.specs.Table.{table, row_at}
use Rattle.fix_orders.proofs.OrderValues.{order_was_read}
use Rattle.fix_orders.proofs.ReadLemmas.{each_none, one_text}

-- an id that was read is its text
pub id_text : (c d : Bool) (text : List ℕ)
    → spelling_reason (if not c then Err Form else (if d then Err Range else Ok text)) ≡ None
    → result_ok (if not c then Err Form else (if d then Err Range else Ok text)) ≡ Some text
id_text true false text e = refl
id_text true true text e = absurd cc
id_text false d text e = absurd cc

one_id : (values : List (List ℕ)) → values_reason true Identifier values ≡ None
    → id_in values ≡ Some (first_value values)
one_id [] e = absurd cc
one_id (v ∷ w ∷ more) e = absurd cc
one_id (v ∷ []) e =
    id_text (list_all is_printable v) (length v == 0 || nat_lt 64 (length v)) v
    (one_text Identifier (v ∷ []) e)

pub order_sender : (fields : List FieldValue) (order : NewOrder)
    → read_of fields ≡ Ok (message.New order)
    → (envelope_of fields).sender ≡ Some order.head.sender
order_sender fields order read =
    let own = order_was_read fields order read in
    one_id (values_of 49 fields)
    (each_none NewOrderSingle fields table 1 (row_at 16) own.none (omega arith))
    ∙ ap (λ (o : NewOrder). Some o.head.sender) own.is
