-- What a report or a cancel reject comes to: nothing changed, or one order became another that counts for
-- no more.
use Rattle.std.proofs.Common.{◌≡◌, ℕ, List, Option, Some, None, slice_get, refl, IfSome}
use Rattle.fix_orders.specs.declared.message.Exec.{Exec}
use Rattle.fix_orders.specs.declared.message.Report.{Report}
use Rattle.fix_orders.specs.declared.message.CancelReject.{CancelReject}
use Rattle.exposure_book.specs.declared.answer.Applied.TheVariants as applied
use Rattle.exposure_book.specs.declared.order.Order.{Order}
use Rattle.exposure_book.specs.Books.{BookValue, place_of}
use Rattle.exposure_book.specs.Orders.{Lowers}
use Rattle.exposure_book.specs.Reports.{Outcome, unchanged, outcome_with, outcome_at, outcome_of}
use Rattle.exposure_book.specs.Reports.{outcome_by, outcome_of_report, outcome_of_reject_at}
use Rattle.exposure_book.specs.Reports.{outcome_of_reject_by, outcome_of_reject, order_after}
use Rattle.exposure_book.specs.Reports.{without_request}
use Rattle.exposure_book.proofs.Lowering.{order_after_lowers, lowers_without_request}

-- what is so of an outcome in each of the three cases
module _ (book : BookValue) (P : Outcome → Type 0) (stray : P (unchanged applied.Stray book))
    (over : P (unchanged applied.Over book))
    (lowered : (place : ℕ) (old next : Order) → slice_get book.orders place ≡ Some old
    → Lowers old next → P (outcome_with book place (Some next))) where
  with_next : (place : ℕ) (old : Order) (next : Option Order)
      → slice_get book.orders place ≡ Some old → IfSome next (Lowers old)
      → P (outcome_with book place next)
  with_next place old None found lowers = over
  with_next place old (Some next) found lowers = lowered place old next found lowers

  at_place : (id : List ℕ) (exec : Exec) (place : ℕ) (old : Option Order)
      → slice_get book.orders place ≡ old → P (outcome_at book id exec place old)
  at_place id exec place None found = stray
  at_place id exec place (Some old) found =
      with_next place old (order_after id exec old) found (order_after_lowers old id exec)

  of_place : (id : List ℕ) (exec : Exec) (place : Option ℕ) → P (outcome_of book id exec place)
  of_place id exec None = stray
  of_place id exec (Some place) = at_place id exec place (slice_get book.orders place) refl

  by_id : (exec : Exec) (id : Option (List ℕ)) → P (outcome_by book exec id)
  by_id exec None = stray
  by_id exec (Some id) = of_place id exec (place_of id book.ids)

  -- what a report comes to
  pub report_comes : (report : Report) → P (outcome_of_report book report)
  report_comes report = by_id report.exec report.id

  reject_at_place : (id : List ℕ) (place : ℕ) (old : Option Order)
      → slice_get book.orders place ≡ old → P (outcome_of_reject_at book id place old)
  reject_at_place id place None found = stray
  reject_at_place id place (Some old) found =
      with_next place old (Some (without_request id old)) found (lowers_without_request old id)

  reject_by_id : (id : List ℕ) (place : Option ℕ) → P (outcome_of_reject_by book id place)
  reject_by_id id None = stray
  reject_by_id id (Some place) = reject_at_place id place (slice_get book.orders place) refl

  -- what a cancel reject comes to
  pub reject_comes : (reject : CancelReject) → P (outcome_of_reject book reject)
  reject_comes reject = reject_by_id reject.id (place_of reject.id book.ids)
