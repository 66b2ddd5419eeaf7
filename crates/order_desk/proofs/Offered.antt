-- What is offered for a request, and what is decided on it, by what the book proposes.
use Rattle.std.proofs.Common.{◌≡◌, ℕ, List, length, Option, Some, None, Result, Ok, Err, refl}
use Rattle.std.proofs.Common.{ap, subst, ◌∙◌, true, false, slice_get, All, arith}
use Rattle.std.proofs.lemmas.List.Elements.{All-get_or}
use Rattle.std.proofs.lemmas.Option.{slice_get_within}
use Rattle.fix_orders.specs.declared.message.NewOrder.{NewOrder}
use Rattle.fix_orders.specs.declared.message.Replace.{Replace}
use Rattle.limit_table.specs.Trees.{LimitsValue}
use Rattle.exposure_book.specs.declared.answer.BookFault.{BookFault}
use Rattle.exposure_book.specs.declared.answer.Proposal.{Proposal}
use Rattle.exposure_book.specs.declared.order.Order.{Order}
use Rattle.exposure_book.specs.Books.{BookValue, order_at, order_with, pair_of_order, place_of}
use Rattle.exposure_book.specs.Commits.{with_replace_pending}
use Rattle.exposure_book.specs.Proposals.{proposal_of_new, proposal_of_replace}
use Rattle.exposure_book.specs.Totals.{IsPlaced}
use Rattle.exposure_book.proofs.Sums.{item_at}
use Rattle.admit_core.specs.declared.rows.OrderRows.{OrderRows}
use Rattle.admit_core.specs.Legs.{AreRowsOf}
use Rattle.admit_core.specs.Tapes.{Tape}
use Rattle.screen_kit.specs.Screens.{ScreenValue}
use Rattle.order_desk.specs.declared.offer.Offer.{Offer}
use Rattle.order_desk.specs.declared.refusal.Refusal.{Refusal}
use Rattle.order_desk.specs.declared.refusal.Refusal.TheVariants as refusal
use Rattle.order_desk.specs.Decisions.{Decision, decided_on, new_next, new_screened, refused}
use Rattle.order_desk.specs.Decisions.{replace_next, replace_screened, tree_decided}
use Rattle.order_desk.specs.Offers.{new_seen, replace_seen, offered, new_offer, new_offer_at}
use Rattle.order_desk.specs.Offers.{replace_offer, replace_offer_at}
use Rattle.order_desk.specs.Refusals.{refusal_of}
use Rattle.order_desk.specs.Rows.{rows_of, upper_price}
use Rattle.order_desk.specs.Sending.{ProposesNew, ProposesReplace}
use Rattle.order_desk.proofs.Deciding.{judged_is}

-- the offer of an order (D) of these rows with these values
abbrev pub offer_of_new : LimitsValue → NewOrder → OrderRows → Proposal → Offer
offer_of_new limits order rows values = record {
  seen = new_seen limits order rows;
  rows = rows;
  values = values;
  always = true;
}

-- the offer of a replace (G) of an order of these rows with these values
abbrev pub offer_of_replace : LimitsValue → Replace → OrderRows → Proposal → Offer
offer_of_replace limits request rows values = record {
  seen = replace_seen limits request rows;
  rows = rows;
  values = values;
  always = false;
}

-- what is offered for an order (D)
module _ (limits : LimitsValue) (order : NewOrder) (book : BookValue) where
  pub new_is_offered : (rows : OrderRows) (values : Proposal)
      → ProposesNew limits order rows values book
      → new_offer limits order book ≡ Ok (offer_of_new limits order rows values)
  new_is_offered rows values is =
      ap (new_offer_at limits order book) is.found
      ∙ ap (offered (new_seen limits order rows) rows true) is.proposed

  -- whatever is so of a refusal, and of what the trees decide on what the book proposes, is so of
  -- what is decided
  module _ (screens : List ScreenValue) (before : Tape) (P : Decision → Type 0)
      (refuses : (why : Refusal) → P (refused why book before))
      (taken : (rows : OrderRows) (values : Proposal) → ProposesNew limits order rows values book
      → P (tree_decided limits (offer_of_new limits order rows values) book
      (new_next order book (offer_of_new limits order rows values)) before)) where
    abbrev new_on : Result Offer Refusal → Decision
    new_on = decided_on limits screens (new_next order book) book before

    new_by_values : (rows : OrderRows) → rows_of limits order ≡ Ok rows
        → (answer : Result Proposal BookFault)
        → proposal_of_new book order rows.account rows.symbol (upper_price limits rows) ≡ answer
        → P (new_on (offered (new_seen limits order rows) rows true answer))
    new_by_values rows found (Err fault) is = refuses (refusal_of fault)
    new_by_values rows found (Ok values) is =
        let offer = offer_of_new limits order rows values in
        judged_is limits screens book before P refuses offer (new_next order book offer)
        (taken rows values (record { found = found; proposed = is }))

    new_by_rows : (found : Result OrderRows Refusal) → rows_of limits order ≡ found
        → P (new_on (new_offer_at limits order book found))
    new_by_rows (Err why) is = refuses why
    new_by_rows (Ok rows) is =
        new_by_values rows is
        (proposal_of_new book order rows.account rows.symbol (upper_price limits rows)) refl

    pub new_decision_is : P (new_screened limits order screens book before)
    new_decision_is = new_by_rows (rows_of limits order) refl

-- what is offered for a replace (G)
module _ (limits : LimitsValue) (request : Replace) (book : BookValue) where
  pub replace_is_offered : (rows : OrderRows) (values : Proposal)
      → ProposesReplace limits request rows values book
      → replace_offer limits request book ≡ Ok (offer_of_replace limits request rows values)
  replace_is_offered rows values is =
      ap (λ answer. replace_offer_at limits request answer
      (pair_of_order (order_with book request.orig))) is.proposed
      ∙ ap (replace_offer_at limits request (Ok values)) is.found

  -- the same of what is decided on it
  module _ (screens : List ScreenValue) (before : Tape) (P : Decision → Type 0)
      (refuses : (why : Refusal) → P (refused why book before))
      (taken : (rows : OrderRows) (values : Proposal)
      → ProposesReplace limits request rows values book
      → P (tree_decided limits (offer_of_replace limits request rows values) book
      (with_replace_pending request limits book) before)) where
    replace_by_parts : (answer : Result Proposal BookFault)
        → proposal_of_replace book request limits ≡ answer → (pair : Option (ℕ × ℕ))
        → pair_of_order (order_with book request.orig) ≡ pair
        → P (decided_on limits screens (replace_next limits request book) book before
        (replace_offer_at limits request answer pair))
    replace_by_parts (Err fault) is pair found = refuses (refusal_of fault)
    replace_by_parts (Ok values) is None found = refuses refusal.Unknown
    replace_by_parts (Ok values) is (Some pair) found =
        let rows : OrderRows = record { account = pair.0; symbol = pair.1 } in
        judged_is limits screens book before P refuses (offer_of_replace limits request rows values)
        (with_replace_pending request limits book)
        (taken rows values (record { proposed = is; found = found }))

    pub replace_decision_is : P (replace_screened limits request screens book before)
    replace_decision_is =
        replace_by_parts (proposal_of_replace book request limits) refl
        (pair_of_order (order_with book request.orig)) refl

-- the order at a place of a book is of the limits' rows
pub order_is_placed : (book : BookValue) (place : ℕ) (order : Order)
    → All (IsPlaced book.accounts book.symbols) book.orders
    → slice_get book.orders place ≡ Some order → IsPlaced book.accounts book.symbols order
order_is_placed book place order placed found =
    subst (IsPlaced book.accounts book.symbols) (item_at book.orders place order found)
    (All-get_or (IsPlaced book.accounts book.symbols) book.orders place order
    (slice_get_within book.orders place order found) placed)

-- the rows of an account and a symbol
abbrev pub rows_by : Option (ℕ × ℕ) → OrderRows
rows_by None = record { account = 0; symbol = 0 }
rows_by (Some pair) = record { account = pair.0; symbol = pair.1 }

-- the rows of a replace are among those of the limits
module _ (limits : LimitsValue) (book : BookValue)
    (accounts : book.accounts ≡ length limits.accounts)
    (symbols : book.symbols ≡ length limits.symbols)
    (placed : All (IsPlaced book.accounts book.symbols) book.orders) (rows : OrderRows) where
  by_order : (place : ℕ) (order : Option Order) → slice_get book.orders place ≡ order
      → pair_of_order order ≡ Some (rows.account, rows.symbol) → AreRowsOf limits rows
  by_order place None found is = absurd cc
  by_order place (Some order) found is =
      let own = order_is_placed book place order placed found in
      let same = ap rows_by is in
      let account : order.account ≡ rows.account = ap (λ (r : OrderRows). r.account) same in
      let symbol : order.symbol ≡ rows.symbol = ap (λ (r : OrderRows). r.symbol) same in
      record {
        account = omega (arith, account, accounts, own.account);
        symbol = omega (arith, symbol, symbols, own.symbol);
      }

  by_place : (place : Option ℕ)
      → pair_of_order (order_at book place) ≡ Some (rows.account, rows.symbol)
      → AreRowsOf limits rows
  by_place None is = absurd cc
  by_place (Some place) is = by_order place (slice_get book.orders place) refl is

  pub replaced_rows : (orig : List ℕ)
      → pair_of_order (order_with book orig) ≡ Some (rows.account, rows.symbol)
      → AreRowsOf limits rows
  replaced_rows orig is = by_place (place_of orig book.ids) is
