-- What a book's orders are worth in each tree.
use Rattle.std.specs.Prelude.{ℕ, ◌-◌, List, [], ◌∷◌, length, ◌==◌, nat_le, if◌then◌else◌}
use Rattle.exposure_book.specs.declared.answer.Proposal.{Proposal}
use Rattle.exposure_book.specs.declared.answer.Terms3.{Terms3}
use Rattle.exposure_book.specs.declared.order.Order.{Order}
use Rattle.exposure_book.specs.Books.{BookValue, empty_book, with_orders, units_up, firm_sum}
use Rattle.exposure_book.specs.Books.{account_sum, symbol_sum}
use Rattle.admit_core.specs.declared.rows.OrderRows.{OrderRows}
use Rattle.limit_table.specs.Trees.{LimitsValue}

-- the three values of a proposal, in the order of the legs
abbrev pub values_of : Proposal → List ℕ
values_of values = values.firm ∷ values.account ∷ values.symbol ∷ []

-- the three values of an order that a report changed
abbrev pub values_told : Terms3 → List ℕ
values_told terms = terms.firm_value ∷ terms.account_value ∷ terms.symbol_value ∷ []

-- its rows
abbrev pub rows_told : Terms3 → OrderRows
rows_told terms = record { account = terms.account; symbol = terms.symbol }

-- a book for these limits with no order
abbrev pub first_book : LimitsValue → BookValue
first_book limits = empty_book limits

-- a book for these limits with these orders
abbrev pub book_for : LimitsValue → List Order → BookValue
book_for limits orders = with_orders orders (first_book limits)

-- the exposure of a book in a tree of sums, in ten-thousandths
abbrev pub sum_in : LimitsValue → ℕ → BookValue → ℕ
sum_in limits tree book =
    if tree == 0 then firm_sum book
    else (if nat_le (length limits.accounts) (tree - 1)
    then symbol_sum (tree - 1 - length limits.accounts) book
    else account_sum (tree - 1) book)

-- what orders are worth in a tree of sums, in whole currency units, rounded up once
abbrev pub value_in : LimitsValue → ℕ → List Order → ℕ
value_in limits tree orders = units_up (sum_in limits tree (book_for limits orders))
