-- What is decided on requests and what reports come to posts nothing in the halt tree.
use Rattle.std.proofs.Common.{◌≡◌, ℕ, List, refl, arith, Bool, true, false, Some, None, Result, Ok}
use Rattle.std.proofs.Common.{Err, slice_get}
use Rattle.std.proofs.lemmas.Bool.{ne_eqb}
use Rattle.fix_orders.specs.declared.message.Cancel.{Cancel}
use Rattle.fix_orders.specs.declared.message.CancelReject.{CancelReject}
use Rattle.fix_orders.specs.declared.message.NewOrder.{NewOrder}
use Rattle.fix_orders.specs.declared.message.Replace.{Replace}
use Rattle.fix_orders.specs.declared.message.Report.{Report}
use Rattle.limit_table.specs.Trees.{LimitsValue, halt_tree, account_tree, symbol_tree}
use Rattle.exposure_book.specs.declared.answer.BookFault.{BookFault}
use Rattle.exposure_book.specs.declared.order.Order.{Order}
use Rattle.exposure_book.specs.Books.{BookValue}
use Rattle.exposure_book.specs.Commits.{with_replace_pending}
use Rattle.exposure_book.specs.Orders.{Lowers}
use Rattle.exposure_book.specs.Proposals.{proposal_of_cancel}
use Rattle.exposure_book.specs.Reports.{outcome_with}
use Rattle.exposure_book.proofs.Outcomes.{report_comes, reject_comes}
use Rattle.screen_kit.specs.Screens.{ScreenValue}
use Rattle.risk_journal.specs.declared.acts.Act.{Act}
use Rattle.admit_core.specs.declared.rows.OrderRows.{OrderRows}
use Rattle.admit_core.specs.Asking.{asking}
use Rattle.admit_core.specs.Legs.{AreRowsOf, legs_of}
use Rattle.admit_core.specs.Tapes.{Tape}
use Rattle.admit_core.proofs.AskedTrees.{leg_in, asked_keeps, back_keeps}
use Rattle.admit_core.proofs.LoweredTrees.{lowering_keeps}
use Rattle.order_desk.specs.declared.offer.Offer.{Offer}
use Rattle.order_desk.specs.Backing.{Covers}
use Rattle.order_desk.specs.Decisions.{cancel_by, cancel_decided, is_above_last, new_next}
use Rattle.order_desk.specs.Decisions.{new_screened, offer_legs, replace_screened, taken_up}
use Rattle.order_desk.specs.Halting.{KeepsHalt}
use Rattle.order_desk.specs.Reported.{settled, report_settled, reject_settled}
use Rattle.order_desk.specs.Values.{values_of, values_told, rows_told}
use Rattle.order_desk.proofs.Covers.{asking_is}
use Rattle.order_desk.proofs.Places.{known_rows}
use Rattle.order_desk.proofs.Offered.{new_decision_is, offer_of_new, offer_of_replace}
use Rattle.order_desk.proofs.Offered.{replace_decision_is, replaced_rows}
use Rattle.order_desk.proofs.ReportedCovers.{terms, are_rows}

-- no leg of rows of the limits is of the halt tree
no_halt_leg : (limits : LimitsValue) (rows : OrderRows) (acts : List Act) (values : List ℕ)
    → AreRowsOf limits rows → leg_in (halt_tree limits) (legs_of limits rows acts values) ≡ None
no_halt_leg limits rows acts values are =
    let halt = halt_tree limits in
    let firm = ne_eqb 0 halt (λ e. absurd (omega (arith, e))) in
    let account = ne_eqb (account_tree rows.account) halt
    (λ e. absurd (omega (arith, e, are.account))) in
    let symbol = ne_eqb (symbol_tree limits rows.symbol) halt
    (λ e. absurd (omega (arith, e, are.symbol))) in
    rw (firm, account, symbol) refl

-- asking about rows of the limits posts nothing there
rows_keep : (limits : LimitsValue) (rows : OrderRows) (values : List ℕ) (before : Tape)
    → AreRowsOf limits rows
    → KeepsHalt limits before.acts
    (asking limits (legs_of limits rows before.acts values) before).tape.acts
rows_keep limits rows values before are =
    let legs = legs_of limits rows before.acts values in
    let none = no_halt_leg limits rows before.acts values are in
    asking_is limits legs before (λ asked. KeepsHalt limits before.acts asked.tape.acts) refl
    (asked_keeps limits legs before (halt_tree limits) none).posts
    (λ answer why is. (back_keeps limits legs before (halt_tree limits) none).posts)

-- what the trees decide on an offer of rows of the limits, whether or not they are asked
taken_keeps : (asks : Bool) (limits : LimitsValue) (offer : Offer) (book next : BookValue)
    (before : Tape) → AreRowsOf limits offer.rows
    → KeepsHalt limits before.acts (taken_up asks limits offer book next before).tape.acts
taken_keeps false limits offer book next before are = refl
taken_keeps true limits offer book next before are =
    rows_keep limits offer.rows (values_of offer.values) before are

-- an order (D)
pub new_keeps : (limits : LimitsValue) (order : NewOrder) (screens : List ScreenValue)
    (book : BookValue) (before : Tape)
    → KeepsHalt limits before.acts (new_screened limits order screens book before).tape.acts
new_keeps limits order screens book before =
    new_decision_is limits order book screens before
    (λ decision. KeepsHalt limits before.acts decision.tape.acts) (λ why. refl)
    (λ rows values is.
    let offer = offer_of_new limits order rows values in
    taken_keeps true limits offer book (new_next order book offer) before
    (known_rows limits order rows is.found))

-- a cancel (F)
pub cancel_keeps : (limits : LimitsValue) (request : Cancel) (book : BookValue) (before : Tape)
    → KeepsHalt limits before.acts (cancel_decided request book before).tape.acts
cancel_keeps limits request book before = by (proposal_of_cancel book request)
  where
    by : (answer : Result (Unit {0}) BookFault)
        → KeepsHalt limits before.acts (cancel_by request book before answer).tape.acts
    by (Err why) = refl
    by (Ok nothing) = refl

-- a replace (G) of an order of a covered book
pub replace_keeps : (limits : LimitsValue) (request : Replace) (screens : List ScreenValue)
    (book : BookValue) (before : Tape) → Covers limits before.acts book
    → KeepsHalt limits before.acts (replace_screened limits request screens book before).tape.acts
replace_keeps limits request screens book before covers =
    replace_decision_is limits request book screens before
    (λ decision. KeepsHalt limits before.acts decision.tape.acts) (λ why. refl)
    (λ rows values is.
    let offer = offer_of_replace limits request rows values in
    taken_keeps (is_above_last (offer_legs limits offer before.acts)) limits offer book
    (with_replace_pending request limits book) before (replaced_rows limits book
    covers.backs.accounts covers.backs.symbols covers.backs.placed rows request.orig is.found))

-- a report or a cancel reject on a covered book
module _ (limits : LimitsValue) (acts : List Act) (book : BookValue)
    (covers : Covers limits acts book) where
  lowered_keeps : (place : ℕ) (old next : Order) → slice_get book.orders place ≡ Some old
      → Lowers old next
      → KeepsHalt limits acts
      (settled limits book acts (outcome_with book place (Some next))).acts
  lowered_keeps place old next found lowers =
      let own = terms limits acts book covers place old next found lowers in
      let legs = legs_of limits (rows_told own) acts (values_told own) in
      (lowering_keeps limits (halt_tree limits) legs acts
      (no_halt_leg limits (rows_told own) acts (values_told own)
      (are_rows limits acts book covers place old next found lowers))).posts

  pub report_keeps : (report : Report)
      → KeepsHalt limits acts (report_settled limits report book acts).acts
  report_keeps report =
      report_comes book (λ outcome. KeepsHalt limits acts (settled limits book acts outcome).acts)
      refl refl lowered_keeps report

  pub reject_keeps : (reject : CancelReject)
      → KeepsHalt limits acts (reject_settled limits reject book acts).acts
  reject_keeps reject =
      reject_comes book (λ outcome. KeepsHalt limits acts (settled limits book acts outcome).acts)
      refl refl lowered_keeps reject
