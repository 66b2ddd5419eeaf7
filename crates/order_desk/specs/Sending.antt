-- What lets an order be sent: what the book proposes, and what the roots allow.
use Rattle.std.specs.Prelude.{◌≡◌, ℕ, ◌≤◌, List, drop, Some, Ok}
use Rattle.std.specs.List.{slice_index_or}
use Rattle.fix_orders.specs.declared.message.NewOrder.{NewOrder}
use Rattle.fix_orders.specs.declared.message.Replace.{Replace}
use Rattle.exposure_book.specs.declared.answer.Proposal.{Proposal}
use Rattle.exposure_book.specs.Books.{BookValue, order_with, pair_of_order}
use Rattle.exposure_book.specs.Proposals.{proposal_of_new, proposal_of_replace}
use Rattle.risk_journal.specs.ActLists.{SeenAt}
use Rattle.admit_core.specs.declared.rows.OrderRows.{OrderRows}
use Rattle.admit_core.specs.Tapes.{next_read}
use Rattle.limit_table.specs.Trees.{LimitsValue, tree_limits, account_tree, symbol_tree}
use Rattle.order_desk.specs.Rows.{rows_of, upper_price}

-- the order (D) has these rows of the limits, and the book proposes these values for it
pub record ProposesNew (limits : LimitsValue) (order : NewOrder) (rows : OrderRows)
    (values : Proposal) (book : BookValue) : Type 0 where
  pub found : rows_of limits order ≡ Ok rows
  pub proposed : proposal_of_new book order rows.account rows.symbol (upper_price limits rows)
      ≡ Ok values

-- the replace (G) is of an order of these rows, and the book proposes these values for it
pub record ProposesReplace (limits : LimitsValue) (request : Replace) (rows : OrderRows)
    (values : Proposal) (book : BookValue) : Type 0 where
  pub proposed : proposal_of_replace book request limits ≡ Ok values
  pub found : pair_of_order (order_with book request.orig) ≡ Some (rows.account, rows.symbol)

-- the value of the read at a place of those to come, from 0
abbrev pub root_read : ℕ → List SeenAt → ℕ
root_read place reads = (next_read (drop place reads)).value

-- the limit of a tree of sums, in whole currency units
abbrev pub root_limit : LimitsValue → ℕ → ℕ
root_limit limits tree = slice_index_or (tree_limits limits) tree 0

-- The halt root, read first, is 0, and each of the three roots read next is at most its limit.
pub record RootsAllow (limits : LimitsValue) (rows : OrderRows) (reads : List SeenAt) : Type 0 where
  pub halt : root_read 0 reads ≡ 0
  pub firm : root_read 1 reads ≤ root_limit limits 0
  pub account : root_read 2 reads ≤ root_limit limits (account_tree rows.account)
  pub symbol : root_read 3 reads ≤ root_limit limits (symbol_tree limits rows.symbol)
