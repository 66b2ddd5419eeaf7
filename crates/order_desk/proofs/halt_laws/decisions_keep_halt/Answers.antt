-- What is decided on a request posts nothing in the halt tree.
use Rattle.std.proofs.Common.{[]}
use Rattle.order_desk.proofs.HaltKept.{new_keeps, cancel_keeps, replace_keeps}
use Rattle.order_desk.proofs.halt_laws.decisions_keep_halt.Goals as goal

pub returns-clause-new : goal.returns-clause-new
returns-clause-new c = λ limits order book before. new_keeps limits order [] book before

pub returns-clause-cancel : goal.returns-clause-cancel
returns-clause-cancel c = cancel_keeps

pub returns-clause-replace : goal.returns-clause-replace
returns-clause-replace c = λ limits request book before covers.
    replace_keeps limits request [] book before covers
