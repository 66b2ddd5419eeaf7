-- What was added is what follows an order of this fate.
use Rattle.make_load.proofs.Adding.{one_line, more_lines}
use Rattle.make_load.proofs.orders.add_fate.Goals as goal

pub returns-in_ok-add_message-in-Filled-clause-lines :
    goal.returns-in_ok-add_message-in-Filled-clause-lines
returns-in_ok-add_message-in-Filled-clause-lines c =
    rw c.in-Filled.is
    (one_line _ _ _ _ c.filled.ensures.fields c.in_ok-add_message-in-Filled.ensures)

pub returns-in_ok-add_message-in-Canceled-2-clause-lines :
    goal.returns-in_ok-add_message-in-Canceled-2-clause-lines
returns-in_ok-add_message-in-Canceled-2-clause-lines c =
    rw c.in-Canceled.is
    (more_lines _ _ _ _ _
    (one_line _ _ _ _ c.cancel.ensures.fields c.in_ok-add_message-in-Canceled.ensures)
    (one_line _ _ _ _ c.canceled.ensures.fields c.in_ok-add_message-in-Canceled-2.ensures))
