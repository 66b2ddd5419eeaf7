-- The hands are fresh and the book has no order.
use Rattle.order_desk.proofs.Desks.{first_desk}
use Rattle.order_desk.proofs.tests.run.Goals as goal

pub open-desk-requires : goal.open-desk-requires
open-desk-requires g c = record {
  desk = first_desk c.args.limits.now _ _ c.in-Ok.hands c.in_ok-book.book.value c.in-Ok.ensures.ok
      c.in_ok-book.ensures;
}
