-- What a report and a cancel reject make of the book and of what is posted.
use Rattle.std.specs.Prelude.{◌≤◌, List, All, Bool, true, false}
use Rattle.fix_orders.specs.declared.message.Report.{Report}
use Rattle.fix_orders.specs.declared.message.CancelReject.{CancelReject}
use Rattle.exposure_book.specs.declared.answer.Applied.{Applied}
use Rattle.exposure_book.specs.declared.answer.Applied.TheVariants as applied
use Rattle.exposure_book.specs.Books.{BookValue}
use Rattle.exposure_book.specs.Reports.{Outcome, outcome_of_report, outcome_of_reject}
use Rattle.risk_journal.specs.declared.acts.Act.{Act}
use Rattle.admit_core.specs.Legs.{AreRowsOf, legs_of}
use Rattle.admit_core.specs.Lowering.{Lowered, lowering}
use Rattle.limit_table.specs.Trees.{LimitsValue}
use Rattle.order_desk.specs.declared.effect.Effect.{Effect}
use Rattle.order_desk.specs.declared.effect.Effect.TheVariants as effect
use Rattle.order_desk.specs.declared.settling.Reply.{Reply}
use Rattle.order_desk.specs.declared.settling.Reply.TheVariants as reply
use Rattle.order_desk.specs.Values.{values_told, rows_told}

-- what became of a report, the acts by then, and the book
pub record Settled : Type 0 where
  pub effect : Effect
  pub acts : List Act
  pub book : BookValue

-- whether every lower value was posted
abbrev pub effect_of : Bool → Effect
effect_of true = effect.Applied
effect_of false = effect.NotLowered

-- the lower values are posted where a post is left
abbrev pub settled_by : BookValue → Lowered → Settled
settled_by book lowered = record {
  effect = effect_of lowered.done;
  acts = lowered.acts;
  book = book;
}

-- the book after an outcome, and what is posted
abbrev pub settled_with : LimitsValue → BookValue → List Act → Applied → Settled
settled_with limits book acts (applied.Applied terms) =
    settled_by book
    (lowering limits (legs_of limits (rows_told terms) acts (values_told terms)) acts)
settled_with limits book acts applied.Stray =
    record { effect = effect.Stray; acts = acts; book = book }
settled_with limits book acts applied.Over =
    record { effect = effect.Over; acts = acts; book = book }

-- the answer tells the values of rows of the limits, and none is above what was last posted
abbrev pub TellsLower : LimitsValue → List Act → Applied → Type 0
TellsLower limits acts (applied.Applied terms) =
    AreRowsOf limits (rows_told terms)
    × All (λ leg. leg.new ≤ leg.old) (legs_of limits (rows_told terms) acts (values_told terms))
TellsLower limits acts applied.Stray = Unit {0}
TellsLower limits acts applied.Over = Unit {0}

-- by an outcome
abbrev pub settled : LimitsValue → BookValue → List Act → Outcome → Settled
settled limits book acts outcome =
    settled_with limits (record book { orders = outcome.orders }) acts outcome.answer

-- what an ExecutionReport (8) comes to
abbrev pub report_settled : LimitsValue → Report → BookValue → List Act → Settled
report_settled limits report book acts =
    settled limits book acts (outcome_of_report book report)

-- what an OrderCancelReject (9) comes to
abbrev pub reject_settled : LimitsValue → CancelReject → BookValue → List Act → Settled
reject_settled limits reject book acts =
    settled limits book acts (outcome_of_reject book reject)

-- what a reply makes of a book
abbrev pub outcome_of : BookValue → Reply → Outcome
outcome_of book (reply.Report report) = outcome_of_report book report.now
outcome_of book (reply.Reject reject) = outcome_of_reject book reject.now

-- what it comes to
abbrev pub reply_settled : LimitsValue → Reply → BookValue → List Act → Settled
reply_settled limits said book acts = settled limits book acts (outcome_of book said)
