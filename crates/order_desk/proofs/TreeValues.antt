-- What orders are worth in a tree of sums, as one is added or changed.
use Rattle.std.proofs.Common.{◌≡◌, ℕ, ◌+◌, ◌-◌, ◌≤◌, ◌<◌, ◌==◌, List, [], ◌∷◌, ◌++◌, length, refl}
use Rattle.std.proofs.Common.{ap, sym, arith, Bool, true, false, cond, Some, slice_get, zero, suc}
use Rattle.std.specs.Prelude.{nat_le, slice_set}
use Rattle.std.proofs.lemmas.Bool.{ne_eqb, eqb-true, leb-true, le-leb, lt-leb}
use Rattle.exposure_book.specs.declared.order.Order.{Order}
use Rattle.exposure_book.specs.Orders.{Lowers}
use Rattle.exposure_book.specs.Books.{BookValue, units_up, firm_sum, account_sum, symbol_sum}
use Rattle.exposure_book.specs.Books.{pair_exposure, is_net, nets_of, with_orders}
use Rattle.exposure_book.specs.Pairs.{exposure_of_pair, no_sums}
use Rattle.exposure_book.proofs.Lowered.{units_up-le, pair-set_le, pair-set_ge, pair-set_other}
use Rattle.exposure_book.proofs.Lowered.{pair-push_le, pair-push_other}
use Rattle.exposure_book.proofs.PairTotals.{account-le, symbol-le, all-le, account-same}
use Rattle.exposure_book.proofs.PairTotals.{symbol-same, all-none, sum_below-none}
use Rattle.limit_table.specs.Trees.{LimitsValue, account_tree, symbol_tree}
use Rattle.risk_journal.specs.declared.acts.Act.{Act}
use Rattle.order_desk.specs.Backing.{Backs}
use Rattle.order_desk.specs.Values.{book_for, sum_in, value_in}

-- the value in an account's tree
value_in-account : (limits : LimitsValue) (account : ℕ) (orders : List Order)
    → account < length limits.accounts
    → value_in limits (account_tree account) orders
    ≡ units_up (account_sum account (book_for limits orders))
value_in-account limits account orders inside =
    let apart : (account_tree account == 0) ≡ false = ne_eqb _ 0 (λ e. absurd (omega (arith, e))) in
    let row : account_tree account - 1 ≡ account = omega arith in
    rw (apart, row, lt-leb (length limits.accounts) account inside) refl

-- the value in a symbol's tree
value_in-symbol : (limits : LimitsValue) (symbol : ℕ) (orders : List Order)
    → value_in limits (symbol_tree limits symbol) orders
    ≡ units_up (symbol_sum symbol (book_for limits orders))
value_in-symbol limits symbol orders =
    let accounts = length limits.accounts in
    let tree = symbol_tree limits symbol in
    let apart : (tree == 0) ≡ false = ne_eqb tree 0 (λ e. absurd (omega (arith, e))) in
    let row : tree - 1 ≡ accounts + symbol = omega arith in
    let place : accounts + symbol - accounts ≡ symbol = omega arith in
    rw (apart, row, le-leb accounts (accounts + symbol) (omega arith), place) refl

-- a backed book, with these orders in place of its own, is worth what they are
module _ (limits : LimitsValue) (acts : List Act) (book : BookValue)
    (backs : Backs limits acts book) (orders : List Order) where
  pub firm_for : units_up (firm_sum (with_orders orders book)) ≡ value_in limits 0 orders
  firm_for = rw (backs.accounts, backs.symbols, backs.nets) refl

  pub account_for : (account : ℕ) → account < length limits.accounts
      → units_up (account_sum account (with_orders orders book))
      ≡ value_in limits (account_tree account) orders
  account_for account inside =
      rw (value_in-account limits account orders inside, backs.symbols, backs.nets) refl

  pub symbol_for : (symbol : ℕ) → units_up (symbol_sum symbol (with_orders orders book))
      ≡ value_in limits (symbol_tree limits symbol) orders
  symbol_for symbol =
      rw (value_in-symbol limits symbol orders, backs.accounts, backs.nets) refl

-- the tree isn't one in which an order of this account and symbol counts
pub record IsOtherTree (limits : LimitsValue) (account symbol tree : ℕ) : Type 0 where
  pub not_firm : tree ≡ 0 → ⊥
  pub not_account : tree ≡ account_tree account → ⊥
  pub not_symbol : tree ≡ symbol_tree limits symbol → ⊥

-- a tree past the firm's, by the one before it
past_none : (tree after : ℕ) → (tree ≡ 0 → ⊥) → tree - 1 ≡ after → tree ≡ 1 + after
past_none zero after none is = absurd (none refl)
past_none (suc tree) after none is = omega (arith, is)

-- no order is worth anything
nothing_by : (net : Bool) → exposure_of_pair net no_sums ≡ 0
nothing_by true = refl
nothing_by false = refl

module _ (limits : LimitsValue) (tree : ℕ) where
  abbrev accounts : ℕ
  accounts = length limits.accounts

  abbrev symbols : ℕ
  symbols = length limits.symbols

  -- its place past those of the accounts
  abbrev past : ℕ
  past = tree - 1 - accounts

  -- by whether it is the firm's, and whether it is past those of the accounts
  abbrev sum_by : Bool → Bool → BookValue → ℕ
  sum_by firm above book =
      cond firm (firm_sum book) (cond above (symbol_sum past book) (account_sum (tree - 1) book))

  abbrev none : ℕ → ℕ → ℕ
  none = pair_exposure (book_for limits [])

  no_pair : (a s : ℕ) → none a s ≡ 0
  no_pair a s = nothing_by (is_net (nets_of limits) a)

  none_by : (firm above : Bool) → sum_by firm above (book_for limits []) ≡ 0
  none_by true above = all-none accounts symbols none no_pair
  none_by false true = sum_below-none accounts (λ a. none a past) (λ a below. no_pair a past)
  none_by false false = sum_below-none symbols (none (tree - 1)) (λ s below. no_pair (tree - 1) s)

  pub value_in-none : value_in limits tree [] ≡ 0
  value_in-none = ap units_up (none_by (tree == 0) (nat_le accounts (tree - 1)))

  -- with one list of orders and with another
  module _ (orders after : List Order) where
    abbrev was : ℕ → ℕ → ℕ
    was = pair_exposure (book_for limits orders)

    abbrev now : ℕ → ℕ → ℕ
    now = pair_exposure (book_for limits after)

    le_by : (firm above : Bool) → ((a s : ℕ) → was a s ≤ now a s)
        → sum_by firm above (book_for limits orders) ≤ sum_by firm above (book_for limits after)
    le_by true above more = all-le accounts symbols now was more
    le_by false true more = symbol-le accounts symbols now was past (λ a. more a past)
    le_by false false more = account-le accounts symbols now was (tree - 1) (more (tree - 1))

    -- no pair counts for less
    value-le : ((a s : ℕ) → was a s ≤ now a s)
        → value_in limits tree orders ≤ value_in limits tree after
    value-le more =
        units_up-le (sum_in limits tree (book_for limits orders))
        (sum_in limits tree (book_for limits after))
        (le_by (tree == 0) (nat_le accounts (tree - 1)) more)

    -- in another tree, where the other pairs count for the same
    module _ (account symbol : ℕ) (other : IsOtherTree limits account symbol tree)
        (same : (a s : ℕ) → (a ≡ account → s ≡ symbol → ⊥) → now a s ≡ was a s) where
      other_by : (firm : Bool) → (tree == 0) ≡ firm → (above : Bool)
          → nat_le accounts (tree - 1) ≡ above
          → sum_by firm above (book_for limits after) ≡ sum_by firm above (book_for limits orders)
      other_by true firm above above_is = absurd (other.not_firm (eqb-true tree 0 firm))
      other_by false firm true above_is =
          let up = leb-true accounts (tree - 1) above_is in
          let apart : past ≡ symbol → ⊥ = λ e.
          let after_accounts : tree ≡ 1 + (accounts + symbol) =
          past_none tree (accounts + symbol) other.not_firm (omega (arith, e, up)) in
          other.not_symbol (omega (arith, after_accounts)) in
          symbol-same accounts symbols was now past (λ a below. same a past (λ e f. apart f))
      other_by false firm false above_is =
          account-same accounts symbols was now (tree - 1)
          (λ s below. same (tree - 1) s
          (λ e f. other.not_account (past_none tree account other.not_firm e)))

      value-other : value_in limits tree after ≡ value_in limits tree orders
      value-other = ap units_up (other_by (tree == 0) refl (nat_le accounts (tree - 1)) refl)

-- one order more, of which nothing is filled, is worth no less
pub value_in-push_le : (limits : LimitsValue) (tree : ℕ) (orders : List Order) (order : Order)
    → order.notional ≡ 0
    → value_in limits tree orders ≤ value_in limits tree (orders ++ order ∷ [])
value_in-push_le limits tree orders order unfilled =
    value-le limits tree orders (orders ++ order ∷ [])
    (pair-push_le (book_for limits orders) order unfilled)

-- one order more, in a tree in which it doesn't count
pub value_in-push_other : (limits : LimitsValue) (tree : ℕ) (orders : List Order) (order : Order)
    → IsOtherTree limits order.account order.symbol tree
    → value_in limits tree (orders ++ order ∷ []) ≡ value_in limits tree orders
value_in-push_other limits tree orders order other =
    value-other limits tree orders (orders ++ order ∷ []) order.account order.symbol other
    (pair-push_other (book_for limits orders) order)

-- an order takes the place of another
module _ (limits : LimitsValue) (tree : ℕ) (orders : List Order) (place : ℕ) (old new : Order)
    (found : slice_get orders place ≡ Some old) where
  -- that counts for no more
  pub value_in-set_le : Lowers old new
      → value_in limits tree (slice_set orders place new) ≤ value_in limits tree orders
  value_in-set_le lowers =
      value-le limits tree (slice_set orders place new) orders
      (pair-set_le (book_for limits orders) place old new found lowers.account lowers.symbol
      lowers.side lowers)

  -- that counts for no less
  pub value_in-set_ge : Lowers new old
      → value_in limits tree orders ≤ value_in limits tree (slice_set orders place new)
  value_in-set_ge lowers =
      value-le limits tree orders (slice_set orders place new)
      (pair-set_ge (book_for limits orders) place old new found (sym lowers.account)
      (sym lowers.symbol) (sym lowers.side) lowers)

  -- of the same account, symbol and side, in a tree in which neither counts
  pub value_in-set_other : new.account ≡ old.account → new.symbol ≡ old.symbol
      → new.side ≡ old.side → IsOtherTree limits new.account new.symbol tree
      → value_in limits tree (slice_set orders place new) ≡ value_in limits tree orders
  value_in-set_other account symbol side other =
      value-other limits tree orders (slice_set orders place new) new.account new.symbol other
      (pair-set_other (book_for limits orders) place old new found account symbol side)
