-- The rows are those of the look-ups.
use Rattle.std.proofs.Common.{sym, refl}
use Rattle.std.specs.Prelude.{Some, None}
use Rattle.order_desk.proofs.Places.{account_is, known_rows, rows_are}
use Rattle.order_desk.proofs.rows.find_rows.Goals as goal

pub returns-in_default-clause-value : goal.returns-in_default-clause-value
returns-in_default-clause-value c =
    rw (← account_is c.args.limits.now c.args.order.now.account None c.stand_in_a_file.ensures
    c.in_default.ensures) refl

pub returns-in_default-symbol-clause-value : goal.returns-in_default-symbol-clause-value
returns-in_default-symbol-clause-value c =
    rows_are c.args.limits.now c.args.order.now (Some c.in-Some.account) None
    c.stand_in_a_file.ensures c.in-Some.ensures c.in_default-symbol.ensures

pub returns-clause-value : goal.returns-clause-value
returns-clause-value c =
    rows_are c.args.limits.now c.args.order.now (Some c.in-Some.account)
    (Some c.in-Some-symbol.symbol) c.stand_in_a_file.ensures c.in-Some.ensures
    c.in-Some-symbol.ensures

pub returns-clause-rows : goal.returns-clause-rows
returns-clause-rows c =
    known_rows c.args.limits.now c.args.order.now _ (sym (returns-clause-value c))
