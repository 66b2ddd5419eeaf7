-- What a report or a cancel reject comes to keeps the book's orders covered.
use Rattle.order_desk.proofs.ReportedCovers.{report_covers, reject_covers}
use Rattle.order_desk.proofs.laws.reports_keep_cover.Goals as goal

pub returns-clause-report : goal.returns-clause-report
returns-clause-report c = λ limits report book acts covers.
    report_covers limits acts book covers report

pub returns-clause-reject : goal.returns-clause-reject
returns-clause-reject c = λ limits reject book acts covers.
    reject_covers limits acts book covers reject
