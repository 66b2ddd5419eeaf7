use Rattle.exposure_book.proofs.Lowered.{lowered_capped}
use Rattle.exposure_book.proofs.Lowering.{lowers_with_cancel}
use Rattle.exposure_book.proofs.book.Book.commit_cancel.Goals as goal

pub change-requires-clause-capped : goal.change-requires-clause-capped
change-requires-clause-capped c =
    lowered_capped c.args.self.now.value c.in-Some.place c.order-order.result _
    c.order-order.ensures.found (lowers_with_cancel c.order-order.result c.owned-2.result)
    c.order-order.ensures.whole
