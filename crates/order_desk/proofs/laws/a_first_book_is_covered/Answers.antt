-- A book with no order is covered before any post.
use Rattle.order_desk.proofs.Covers.{first_covers}
use Rattle.order_desk.proofs.laws.a_first_book_is_covered.Goals as goal

pub returns : goal.returns
returns c = first_covers
