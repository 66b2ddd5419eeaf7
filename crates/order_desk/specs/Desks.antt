-- A desk as contracts see it, and how it stands before and after what it does.
use Rattle.std.specs.Prelude.{◌≡◌, ℕ, ◌≤◌, List}
use Rattle.limit_table.specs.Trees.{LimitsValue}
use Rattle.exposure_book.specs.Books.{BookValue, BookInMemory}
use Rattle.admit_core.specs.Hands.{HandsValue, IsOver, IsAfter}
use Rattle.order_desk.specs.Backing.{Covers}

-- the limits, the hands, the book and the screens
pub record DeskValue (H M K : Type 0) : Type 0 where
  pub limits : LimitsValue
  pub hands : HandsValue H M
  pub book : BookInMemory
  pub screens : List K

-- the hands are over the trees of the limits, and what is posted covers the orders of the book
pub record IsDesk {H M : Type 0} (limits : LimitsValue) (hands : HandsValue H M) (book : BookValue)
    : Type 0 where
  pub over : IsOver limits hands
  pub covers : Covers limits hands.acts book

-- there is room for so many acts, one order and one id
pub record HasRoom {H M K : Type 0} (acts : ℕ) (desk : DeskValue H M K) : Type 0 where
  pub acts_fit : acts ≤ desk.hands.room
  pub order_fits : 1 ≤ desk.book.room

-- the same desk over the same limits and hands, so many acts later at most
pub record IsLater {H M K : Type 0} (SameSum : H → H → Type 0) (SameHalt : M → M → Type 0)
    (before now : DeskValue H M K) (acts : ℕ) : Type 0 where
  pub limits_are : now.limits ≡ before.limits
  pub hands_are : IsAfter SameSum SameHalt before.hands now.hands acts
