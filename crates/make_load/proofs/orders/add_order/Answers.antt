-- An order, the report that it was taken, and what follows.
use Rattle.make_load.proofs.Adding.{one_line, more_lines, then_lines}
use Rattle.make_load.proofs.orders.add_order.Goals as goal

pub returns-clause-lines : goal.returns-clause-lines
returns-clause-lines c =
    then_lines c.add_fate.result _ _ _ _ _
    (more_lines _ _ _ _ _
    (one_line _ _ _ _ c.new_order.ensures.fields c.in_ok-add_message.ensures)
    (one_line _ _ _ _ c.taken.ensures.fields c.in_ok-add_message-2.ensures))
    c.add_fate.ensures.lines
