-- The hands are fresh and the book has no order.
use Rattle.order_desk.proofs.Desks.{first_desk}
use Rattle.session_engine.proofs.session.Session.open.Goals as goal

pub open-requires : goal.open-requires
open-requires g c = record {
  desk = first_desk c.args.start.limits.now _ _ c.args.start.hands c.args.start.book.value
      c.requires.fresh c.requires.book;
}
