-- What is decided on a request keeps the book's orders covered.
use Rattle.std.proofs.Common.{◌≡◌, ℕ, ◌≤◌, List, [], refl, ap, sym, ◌∙◌, Bool, true, false, cond}
use Rattle.std.proofs.Common.{not, All, Option, Some, None, Result, Ok, Err, subst, slice_get, ◌<◌}
use Rattle.std.proofs.Common.{arith}
use Rattle.std.specs.Prelude.{nat_le, nat_lt, slice_set}
use Rattle.std.proofs.lemmas.Bool.{ltb-false}
use Rattle.std.proofs.lemmas.List.Elements.{All-set, All-push, All-weaker}
use Rattle.fix_orders.specs.declared.message.NewOrder.{NewOrder}
use Rattle.fix_orders.specs.declared.message.Cancel.{Cancel}
use Rattle.fix_orders.specs.declared.message.Replace.{Replace}
use Rattle.exposure_book.specs.declared.answer.BookFault.{BookFault}
use Rattle.exposure_book.specs.declared.answer.BookFault.TheVariants as fault
use Rattle.exposure_book.specs.declared.answer.Proposal.{Proposal}
use Rattle.exposure_book.specs.declared.order.Order.{Order}
use Rattle.exposure_book.specs.declared.pending.Pending.{Pending}
use Rattle.exposure_book.specs.declared.pending.Pending.TheVariants as pending
use Rattle.exposure_book.specs.Books.{BookValue, place_of, proposal_of, order_at, order_with}
use Rattle.exposure_book.specs.Books.{pair_of_order, with_orders}
use Rattle.exposure_book.specs.Commits.{with_new, named, with_request, with_replace_in, replaced_at}
use Rattle.exposure_book.specs.Commits.{with_replace_pending, with_cancel, cancel_at}
use Rattle.exposure_book.specs.Commits.{with_cancel_pending}
use Rattle.exposure_book.specs.Orders.{Lowers, is_closed}
use Rattle.exposure_book.specs.Pendings.{is_pending, is_same_id}
use Rattle.exposure_book.specs.Proposals.{new_order, capped, is_within_cap, is_known, requested}
use Rattle.exposure_book.specs.Proposals.{requested_at, open_for_request, fault_alone, with_replace}
use Rattle.exposure_book.specs.Proposals.{is_of_order, replace_of, proposal_of_cancel}
use Rattle.exposure_book.specs.Proposals.{replace_at as proposed_at}
use Rattle.exposure_book.specs.Totals.{IsPlaced}
use Rattle.exposure_book.proofs.Lowering.{lowers_with_cancel, lowers_without_pending}
use Rattle.screen_kit.specs.Screens.{ScreenValue}
use Rattle.risk_journal.specs.declared.acts.Act.{Act}
use Rattle.admit_core.specs.declared.rows.OrderRows.{OrderRows}
use Rattle.admit_core.specs.Legs.{Leg, AreRowsOf, legs_of}
use Rattle.admit_core.specs.Tapes.{Tape, tape}
use Rattle.limit_table.specs.Trees.{LimitsValue}
use Rattle.order_desk.specs.Backing.{Covers}
use Rattle.order_desk.specs.Decisions.{Decision, cancel_by, cancel_decided, is_above_last}
use Rattle.order_desk.specs.Decisions.{new_screened, replace_screened, taken_up, tree_decided}
use Rattle.order_desk.specs.Rows.{upper_price}
use Rattle.order_desk.specs.Sending.{ProposesNew}
use Rattle.order_desk.specs.Values.{values_of, value_in}
use Rattle.order_desk.proofs.Covers.{Tells, covers_asked, covers_at_once, covers_kept, none_passes}
use Rattle.order_desk.proofs.Covers.{tells_with}
use Rattle.order_desk.proofs.Places.{known_rows}
use Rattle.order_desk.proofs.Offered.{new_decision_is, offer_of_new, offer_of_replace}
use Rattle.order_desk.proofs.Offered.{order_is_placed, replace_decision_is, rows_by}
use Rattle.order_desk.proofs.TreeValues.{value_in-push_le, value_in-push_other, value_in-set_ge}
use Rattle.order_desk.proofs.TreeValues.{value_in-set_le, value_in-set_other}

-- a decision leaves its book covered
abbrev IsCovered : LimitsValue → Decision → Type 0
IsCovered limits decision = Covers limits decision.tape.acts decision.book

-- what is given past a test that faults
passes : {A B : Type 0} (test : Bool) (fault : B) (rest : Result A B) (given : A)
    → cond {A = Result A B} test (Err fault) rest ≡ Ok given
    → (test ≡ false) × (rest ≡ Ok given)
passes true fault rest given is = absurd cc
passes false fault rest given is = (refl, is)

-- what is given by a test that faults where it fails
chosen : {A B : Type 0} (test : Bool) (own given : A) (fault : B)
    → cond {A = Result A B} test (Ok own) (Err fault) ≡ Ok given → own ≡ given
chosen true own given fault is = cc
chosen false own given fault is = absurd cc

-- an order (D)
module _ (limits : LimitsValue) (order : NewOrder) (book : BookValue) (before : Tape)
    (covers : Covers limits before.acts book) where
  abbrev one : OrderRows → Order
  one rows = new_order order rows.account rows.symbol (upper_price limits rows)

  abbrev more : OrderRows → BookValue
  more rows = with_new order rows.account rows.symbol (upper_price limits rows) book

  new_taken : (rows : OrderRows) (values : Proposal)
      → ProposesNew limits order rows values book
      → IsCovered limits
      (tree_decided limits (offer_of_new limits order rows values) book (more rows) before)
  new_taken rows values is =
      let are = known_rows limits order rows is.found in
      let proposed = proposal_of (with_orders (more rows).orders book) rows.account rows.symbol in
      let within = passes (is_known book order.id) fault.Duplicate (capped proposed) values
      is.proposed in
      covers_asked limits rows are (values_of values) before.acts book (more rows).orders
      (more rows).ids covers
      (All-push (IsPlaced book.accounts book.symbols) book.orders (one rows) covers.backs.placed
      (record {
        account = subst (λ n. rows.account < n) (sym covers.backs.accounts) are.account;
        symbol = subst (λ n. rows.symbol < n) (sym covers.backs.symbols) are.symbol;
      }))
      (subst (λ (v : Proposal). Tells limits rows (values_of v) book.orders (more rows).orders)
      (chosen (is_within_cap proposed) proposed values fault.Cap within.1)
      (tells_with limits before.acts book covers.backs rows are (more rows).orders
      (λ tree other. value_in-push_other limits tree book.orders (one rows) other)))
      before.reads (λ tree. value_in-push_le limits tree book.orders (one rows) refl)

pub new_covers : (limits : LimitsValue) (order : NewOrder) (screens : List ScreenValue)
    (book : BookValue) (before : Tape) → Covers limits before.acts book
    → IsCovered limits (new_screened limits order screens book before)
new_covers limits order screens book before covers =
    new_decision_is limits order book screens before (IsCovered limits) (λ why. covers)
    (new_taken limits order book before covers)

-- a request that nothing stands against: the order that it names, at its place, with none pending
record RequestsOn (book : BookValue) (orig : List ℕ) (place : ℕ) : Type 0 where
  order : Order
  at : place_of orig book.ids ≡ Some place
  found : slice_get book.orders place ≡ Some order
  idle : order.pending ≡ pending.Nothing

is_idle : (request : Pending) → is_pending request ≡ false → request ≡ pending.Nothing
is_idle pending.Nothing is = refl
is_idle (pending.Cancel id) is = absurd cc
is_idle (pending.Replace id total price) is = absurd cc

requests_on : (book : BookValue) (id orig : List ℕ) (place : ℕ)
    → requested book id orig ≡ Ok place → RequestsOn book orig place
requests_on book id orig place given =
    by_place (place_of orig book.ids) refl
    (passes (is_known book id) fault.Duplicate _ place given).1
  where
    by_order : (own : ℕ) (found : Option Order) → place_of orig book.ids ≡ Some own
        → slice_get book.orders own ≡ found → open_for_request orig own found ≡ Ok place
        → RequestsOn book orig place
    by_order own None at is taken = absurd cc
    by_order own (Some order) at is taken =
        let open_ = passes (is_closed order) fault.Closed _ place taken in
        let idle = passes (is_pending order.pending) fault.Pending _ place open_.1 in
        let here = chosen (is_same_id orig order.current) own place fault.Unknown idle.1 in
        record {
          order = order;
          at = at ∙ ap Some here;
          found = ap (slice_get book.orders) (sym here) ∙ is;
          idle = is_idle order.pending idle.0;
        }

    by_place : (at : Option ℕ) → place_of orig book.ids ≡ at → requested_at book orig at ≡ Ok place
        → RequestsOn book orig place
    by_place None is taken = absurd cc
    by_place (Some own) is taken = by_order own (slice_get book.orders own) is refl taken

-- a request is pending on an order with none
module _ (order : Order) (idle : order.pending ≡ pending.Nothing) where
  -- the order itself
  cleared : record order { pending = pending.Nothing } ≡ order
  cleared = ap (λ (p : Pending). record order { pending = p }) (sym idle)

  lowers_to_order : (next : Pending) → Lowers (record order { pending = next }) order
  lowers_to_order next =
      subst (Lowers (record order { pending = next })) cleared
      (lowers_without_pending (record order { pending = next }))

-- a request (F or G) on an order of a covered book
module _ (limits : LimitsValue) (book : BookValue) (before : Tape)
    (covers : Covers limits before.acts book) (orig : List ℕ) (place : ℕ)
    (on : RequestsOn book orig place) where
  abbrev next_order : Pending → Order
  next_order request = record on.order { pending = request }

  abbrev next_book : List ℕ → Pending → BookValue
  next_book id request =
      named id place (record book { orders = slice_set book.orders place (next_order request) })

  own_placed : IsPlaced book.accounts book.symbols on.order
  own_placed = order_is_placed book place on.order covers.backs.placed on.found

  next_placed : (request : Pending) → All (IsPlaced book.accounts book.symbols)
      (slice_set book.orders place (next_order request))
  next_placed request =
      All-set (IsPlaced book.accounts book.symbols) book.orders place (next_order request)
      (record { account = own_placed.account; symbol = own_placed.symbol }) covers.backs.placed

  cancel_covers_on : (request : Cancel)
      → Covers limits before.acts (next_book request.id (pending.Cancel request.id))
  cancel_covers_on request =
      covers_kept limits before.acts before.acts book
      (next_book request.id (pending.Cancel request.id)).orders
      (next_book request.id (pending.Cancel request.id)).ids covers
      (next_placed (pending.Cancel request.id)) (λ tree inside. record { posts = refl; last = refl })
      (λ tree.
      let less = value_in-set_le limits tree book.orders place on.order
      (next_order (pending.Cancel request.id)) on.found
      (lowers_with_cancel on.order request.id) in
      let more = value_in-set_ge limits tree book.orders place on.order
      (next_order (pending.Cancel request.id)) on.found
      (lowers_to_order on.order on.idle (pending.Cancel request.id)) in
      omega (arith, less, more)) covers.admitted

  abbrev own_rows : OrderRows
  own_rows = record { account = on.order.account; symbol = on.order.symbol }

  are_rows : AreRowsOf limits own_rows
  are_rows = record {
    account = subst (λ n. on.order.account < n) covers.backs.accounts own_placed.account;
    symbol = subst (λ n. on.order.symbol < n) covers.backs.symbols own_placed.symbol;
  }

  module _ (request : Replace) (values : Proposal)
      (told : proposal_of
      (with_orders (slice_set book.orders place (with_replace request limits on.order)) book)
      on.order.account on.order.symbol ≡ values) where
    abbrev asks : Pending
    asks = (with_replace request limits on.order).pending

    abbrev replaced : BookValue
    replaced = next_book request.id asks

    raised : (tree : ℕ) → value_in limits tree book.orders ≤ value_in limits tree replaced.orders
    raised tree =
        value_in-set_ge limits tree book.orders place on.order (next_order asks) on.found
        (lowers_to_order on.order on.idle asks)

    tells : Tells limits own_rows (values_of values) book.orders replaced.orders
    tells =
        subst (λ (v : Proposal). Tells limits own_rows (values_of v) book.orders replaced.orders)
        told (tells_with limits before.acts book covers.backs own_rows are_rows replaced.orders
        (λ tree other. value_in-set_other limits tree book.orders place on.order (next_order asks)
        on.found refl refl refl other))

    replace_taken : (above : Bool)
        → is_above_last (legs_of limits own_rows before.acts (values_of values)) ≡ above
        → IsCovered limits (taken_up above limits (offer_of_replace limits request own_rows values)
        book replaced before)
    replace_taken true is =
        covers_asked limits own_rows are_rows (values_of values) before.acts book replaced.orders
        replaced.ids covers (next_placed asks) tells before.reads raised
    replace_taken false is =
        let legs = legs_of limits own_rows before.acts (values_of values) in
        covers_at_once limits own_rows are_rows (values_of values) before.acts book replaced.orders
        replaced.ids covers (next_placed asks) tells
        (All-weaker (λ leg. nat_lt leg.old leg.new ≡ false) (λ leg. leg.new ≤ leg.old)
        (λ leg none. ltb-false leg.old leg.new none) legs
        (none_passes (λ (leg : Leg). nat_lt leg.old leg.new) legs is)) raised

pub cancel_covers : (limits : LimitsValue) (request : Cancel) (book : BookValue) (before : Tape)
    → Covers limits before.acts book → IsCovered limits (cancel_decided request book before)
cancel_covers limits request book before covers = by (requested book request.id request.orig) refl
  where
    -- by what stands against it
    by : (answer : Result ℕ BookFault) → requested book request.id request.orig ≡ answer
        → IsCovered limits (cancel_by request book before (fault_alone answer))
    by (Err why) is = covers
    by (Ok place) is =
        let on = requests_on book request.id request.orig place is in
        let next : with_cancel_pending request book
        ≡ next_book limits book before covers request.orig place on request.id
        (pending.Cancel request.id) =
        ap (cancel_at request book) on.at
        ∙ ap (λ o. with_request request.id place (with_cancel request o) book) on.found in
        subst (Covers limits before.acts) (sym next)
        (cancel_covers_on limits book before covers request.orig place on request)

-- the values of a replace (G) that were proposed
replace_told : (limits : LimitsValue) (request : Replace) (book : BookValue) (place : ℕ)
    (order : Order) (values : Proposal)
    → replace_of book request limits place (Some order) ≡ Ok values
    → proposal_of (with_orders (slice_set book.orders place (with_replace request limits order)) book)
    order.account order.symbol ≡ values
replace_told limits request book place order values is =
    let other = passes (not (is_of_order request limits order)) fault.Mismatch _ values is in
    let few = passes (nat_le request.quantity order.filled) fault.Quantity _ values other.1 in
    chosen _ _ values fault.Cap few.1

-- a replace (G) that the book proposes
module _ (limits : LimitsValue) (request : Replace) (rows : OrderRows) (values : Proposal)
    (book : BookValue) (before : Tape) (covers : Covers limits before.acts book)
    (found : pair_of_order (order_with book request.orig) ≡ Some (rows.account, rows.symbol)) where
  abbrev taken : OrderRows → BookValue → Decision
  taken own next = tree_decided limits (offer_of_replace limits request own values) book next before

  replace_on : (place : ℕ) → RequestsOn book request.orig place
      → replace_of book request limits place (slice_get book.orders place) ≡ Ok values
      → IsCovered limits (taken rows (with_replace_pending request limits book))
  replace_on place on is =
      let told = replace_told limits request book place on.order values
      (ap (replace_of book request limits place) (sym on.found) ∙ is) in
      let next : with_replace_pending request limits book
      ≡ replaced limits book before covers request.orig place on request values told =
      ap (replaced_at request limits book) on.at
      ∙ ap (λ o. with_request request.id place (with_replace_in request limits o) book) on.found in
      let pair : pair_of_order (order_with book request.orig)
      ≡ Some (on.order.account, on.order.symbol) =
      ap (λ p. pair_of_order (order_at book p)) on.at ∙ ap pair_of_order on.found in
      let own = own_rows limits book before covers request.orig place on in
      let same : own ≡ rows = ap rows_by (sym pair ∙ found) in
      subst (λ (r : OrderRows). IsCovered limits (taken r (with_replace_pending request limits book)))
      same (subst (λ (b : BookValue). IsCovered limits (taken own b)) (sym next)
      (replace_taken limits book before covers request.orig place on request values told
      (is_above_last (legs_of limits own before.acts (values_of values))) refl))

  -- by what stands against it
  replace_by : (answer : Result ℕ BookFault) → requested book request.id request.orig ≡ answer
      → proposed_at book request limits answer ≡ Ok values
      → IsCovered limits (taken rows (with_replace_pending request limits book))
  replace_by (Err why) is given = absurd cc
  replace_by (Ok place) is given =
      replace_on place (requests_on book request.id request.orig place is) given

pub replace_covers : (limits : LimitsValue) (request : Replace) (screens : List ScreenValue)
    (book : BookValue) (before : Tape) → Covers limits before.acts book
    → IsCovered limits (replace_screened limits request screens book before)
replace_covers limits request screens book before covers =
    replace_decision_is limits request book screens before (IsCovered limits) (λ why. covers)
    (λ rows values is. replace_by limits request rows values book before covers is.found
    (requested book request.id request.orig) refl is.proposed)

-- a cancel that the book proposed is committed
pub sent_cancel_covers : (limits : LimitsValue) (request : Cancel) (acts : List Act)
    (book : BookValue) (nothing : Unit {0}) → Ok nothing ≡ proposal_of_cancel book request
    → Covers limits acts book → Covers limits acts (with_cancel_pending request book)
sent_cancel_covers limits request acts book nothing is covers =
    subst (IsCovered limits) (ap (cancel_by request book (tape acts [])) (sym is))
    (cancel_covers limits request book (tape acts []) covers)
