-- An order is sent exactly where the roots allow it.
use Rattle.order_desk.proofs.Sending.{new_is_sent, replace_is_sent}
use Rattle.order_desk.proofs.complete_laws.an_order_is_sent_exactly_within_limits.Goals as goal

pub returns-clause-new : goal.returns-clause-new
returns-clause-new c = λ limits order rows values screens book before.
    new_is_sent limits rows values book before screens order

pub returns-clause-replace : goal.returns-clause-replace
returns-clause-replace c = λ limits request rows values screens book before.
    replace_is_sent limits rows values book before screens request
