-- How what is posted stands to what the orders of a book are worth.
use Rattle.std.specs.Prelude.{◌≡◌, ℕ, ◌≤◌, ◌<◌, List, length, All}
use Rattle.exposure_book.specs.Books.{BookValue, nets_of}
use Rattle.exposure_book.specs.Totals.{IsPlaced}
use Rattle.risk_journal.specs.declared.acts.Act.{Act}
use Rattle.risk_journal.specs.ActLists.{posts_in, last_post}
use Rattle.admit_core.specs.Admitted.{AdmitsLast}
use Rattle.limit_table.specs.Trees.{LimitsValue, halt_tree}
use Rattle.order_desk.specs.Values.{value_in}

-- In a tree the orders are worth at most what was last posted, and just that while a post is left.
pub record IsBacked (limits : LimitsValue) (acts : List Act) (book : BookValue) (tree : ℕ)
    : Type 0 where
  pub within : value_in limits tree book.orders ≤ last_post tree acts
  pub exact : posts_in tree acts < limits.quota
      → value_in limits tree book.orders ≡ last_post tree acts

-- the book is one for these limits, and what is posted backs its orders in each tree of sums
pub record Backs (limits : LimitsValue) (acts : List Act) (book : BookValue) : Type 0 where
  pub accounts : book.accounts ≡ length limits.accounts
  pub symbols : book.symbols ≡ length limits.symbols
  pub nets : book.nets ≡ nets_of limits
  pub placed : All (IsPlaced book.accounts book.symbols) book.orders
  pub trees : (tree : ℕ) → tree < halt_tree limits → IsBacked limits acts book tree

-- What is posted backs the orders of the book, and in each tree with a limit it is admitted.
pub record Covers (limits : LimitsValue) (acts : List Act) (book : BookValue) : Type 0 where
  pub backs : Backs limits acts book
  pub admitted : AdmitsLast limits acts
