-- What a report comes to posts nothing in the halt tree.
use Rattle.order_desk.proofs.HaltKept.{report_keeps, reject_keeps}
use Rattle.order_desk.proofs.halt_laws.reports_keep_halt.Goals as goal

pub returns-clause-report : goal.returns-clause-report
returns-clause-report c = λ limits report book acts covers.
    report_keeps limits acts book covers report

pub returns-clause-reject : goal.returns-clause-reject
returns-clause-reject c = λ limits reject book acts covers.
    reject_keeps limits acts book covers reject
