-- What raises no value is sent at once.
use Rattle.order_desk.proofs.Sending.{cancel_at_once, replace_at_once}
use Rattle.order_desk.proofs.complete_laws.what_raises_no_value_is_sent.Goals as goal

pub returns-clause-replace : goal.returns-clause-replace
returns-clause-replace c = λ limits request rows values screens book before.
    replace_at_once limits rows values book before screens request

pub returns-clause-cancel : goal.returns-clause-cancel
returns-clause-cancel c = cancel_at_once
