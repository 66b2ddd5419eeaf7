-- What keeps a desk one of its limits.
use Rattle.std.proofs.Common.{◌≡◌}
use Rattle.limit_table.specs.Trees.{LimitsValue}
use Rattle.exposure_book.specs.Books.{BookValue, empty_book}
use Rattle.admit_core.specs.Hands.{HandsValue, IsFresh}
use Rattle.order_desk.specs.Desks.{IsDesk}
use Rattle.order_desk.proofs.Covers.{first_covers}

-- fresh hands and a book with no order
pub first_desk : {H M : Type 0} (limits : LimitsValue) (sum : H) (halt : M)
    (hands : HandsValue H M) (book : BookValue) → IsFresh limits sum halt hands
    → book ≡ empty_book limits
    → IsDesk limits hands book
first_desk limits sum halt hands book fresh book_is = record {
  over = fresh.over;
  covers = rw (fresh.acts_are, book_is) (first_covers limits);
}
