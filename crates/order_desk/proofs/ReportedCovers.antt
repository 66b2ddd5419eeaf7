-- What a report comes to keeps the book's orders covered.
use Rattle.std.proofs.Common.{◌≡◌, ℕ, ◌≤◌, ◌<◌, List, All, sym, subst, ap, ◌∙◌, Some, slice_get}
use Rattle.std.specs.Prelude.{slice_set}
use Rattle.std.proofs.lemmas.List.Elements.{All-set}
use Rattle.fix_orders.specs.declared.message.CancelReject.{CancelReject}
use Rattle.fix_orders.specs.declared.message.Report.{Report}
use Rattle.exposure_book.specs.declared.answer.Applied.{Applied}
use Rattle.exposure_book.specs.declared.answer.Terms3.{Terms3}
use Rattle.exposure_book.specs.declared.order.Order.{Order}
use Rattle.exposure_book.specs.Books.{BookValue, terms_of}
use Rattle.exposure_book.specs.Orders.{Lowers}
use Rattle.exposure_book.specs.Reports.{Outcome, outcome_with, outcome_of_report, outcome_of_reject}
use Rattle.exposure_book.specs.Totals.{IsPlaced}
use Rattle.exposure_book.proofs.Outcomes.{report_comes, reject_comes}
use Rattle.risk_journal.specs.declared.acts.Act.{Act}
use Rattle.limit_table.specs.Trees.{LimitsValue}
use Rattle.admit_core.specs.Legs.{AreRowsOf, legs_of}
use Rattle.order_desk.specs.declared.effect.Effect.{Effect}
use Rattle.order_desk.specs.Backing.{Covers}
use Rattle.order_desk.specs.Reported.{Settled, TellsLower, settled, settled_with, report_settled}
use Rattle.order_desk.specs.Reported.{reject_settled, outcome_of}
use Rattle.order_desk.specs.declared.settling.Reply.{Reply}
use Rattle.order_desk.specs.declared.settling.Reply.TheVariants as reply
use Rattle.order_desk.specs.Values.{values_told, rows_told}
use Rattle.order_desk.proofs.Covers.{Tells, covers_lowered, lower_legs, tells_with}
use Rattle.order_desk.proofs.Offered.{order_is_placed}
use Rattle.order_desk.proofs.TreeValues.{value_in-set_le, value_in-set_other}

-- a settled report leaves its book covered
abbrev IsCovered : LimitsValue → Settled → Type 0
IsCovered limits result = Covers limits result.acts result.book

-- an order of a covered book becomes one that counts for no more
module _ (limits : LimitsValue) (acts : List Act) (book : BookValue)
    (covers : Covers limits acts book) (place : ℕ) (old next : Order)
    (found : slice_get book.orders place ≡ Some old) (lowers : Lowers old next) where
  abbrev orders : List Order
  orders = slice_set book.orders place next

  abbrev after : BookValue
  after = record book { orders = orders }

  abbrev pub terms : Terms3
  terms = terms_of after next

  own_placed : IsPlaced book.accounts book.symbols next
  own_placed =
      let was = order_is_placed book place old covers.backs.placed found in
      record {
        account = subst (λ n. n < book.accounts) (sym lowers.account) was.account;
        symbol = subst (λ n. n < book.symbols) (sym lowers.symbol) was.symbol;
      }

  pub are_rows : AreRowsOf limits (rows_told terms)
  are_rows = record {
    account = subst (λ n. next.account < n) covers.backs.accounts own_placed.account;
    symbol = subst (λ n. next.symbol < n) covers.backs.symbols own_placed.symbol;
  }

  told : Tells limits (rows_told terms) (values_told terms) book.orders orders
  told =
      tells_with limits acts book covers.backs (rows_told terms) are_rows orders
      (λ tree other. value_in-set_other limits tree book.orders place old next found lowers.account
      lowers.symbol lowers.side other)

  placed : All (IsPlaced book.accounts book.symbols) orders
  placed =
      All-set (IsPlaced book.accounts book.symbols) book.orders place next own_placed
      covers.backs.placed

  pub less : All (λ leg. leg.new ≤ leg.old)
      (legs_of limits (rows_told terms) acts (values_told terms))
  less =
      lower_legs limits (rows_told terms) are_rows (values_told terms) acts book orders book.ids
      covers placed told
      (λ tree. value_in-set_le limits tree book.orders place old next found lowers)

  pub applied_covers : IsCovered limits
      (settled limits book acts (outcome_with book place (Some next)))
  applied_covers =
      covers_lowered limits (rows_told terms) are_rows (values_told terms) acts book orders book.ids
      covers placed told less

-- what a report or a cancel reject comes to on a covered book
module _ (limits : LimitsValue) (acts : List Act) (book : BookValue)
    (covers : Covers limits acts book) where
  -- it is covered, and tells what is no more than was last posted
  pub record KeepsCover (outcome : Outcome) : Type 0 where
    pub covered : IsCovered limits (settled limits book acts outcome)
    pub tells : TellsLower limits acts outcome.answer

  lowered_keeps : (place : ℕ) (old next : Order) → slice_get book.orders place ≡ Some old
      → Lowers old next → KeepsCover (outcome_with book place (Some next))
  lowered_keeps place old next found lowers = record {
    covered = applied_covers limits acts book covers place old next found lowers;
    tells = (
      are_rows limits acts book covers place old next found lowers,
      less limits acts book covers place old next found lowers,
    );
  }

  report_keeps_cover : (report : Report) → KeepsCover (outcome_of_report book report)
  report_keeps_cover report =
      report_comes book KeepsCover (record { covered = covers; tells = tt })
      (record { covered = covers; tells = tt }) lowered_keeps report

  reject_keeps_cover : (reject : CancelReject) → KeepsCover (outcome_of_reject book reject)
  reject_keeps_cover reject =
      reject_comes book KeepsCover (record { covered = covers; tells = tt })
      (record { covered = covers; tells = tt }) lowered_keeps reject

  pub reply_keeps_cover : (said : Reply) → KeepsCover (outcome_of book said)
  reply_keeps_cover (reply.Report report) = report_keeps_cover report.now
  reply_keeps_cover (reply.Reject reject) = reject_keeps_cover reject.now

  pub report_covers : (report : Report) → IsCovered limits (report_settled limits report book acts)
  report_covers report = (report_keeps_cover report).covered

  pub reject_covers : (reject : CancelReject)
      → IsCovered limits (reject_settled limits reject book acts)
  reject_covers reject = (reject_keeps_cover reject).covered

  -- what was settled is covered, by what the book applied
  pub settled_covers : (outcome : Outcome) (acts_after : List Act) (next : BookValue)
      (answer : Applied) (effect : Effect) → KeepsCover outcome → answer ≡ outcome.answer
      → next ≡ record book { orders = outcome.orders }
      → settled_with limits next acts answer
      ≡ record { effect = effect; acts = acts_after; book = next }
      → Covers limits acts_after next
  settled_covers outcome acts_after next answer effect keeps answer_is next_is settled_is =
      subst (IsCovered limits)
      (sym (ap (settled_with limits (record book { orders = outcome.orders }) acts) answer_is)
      ∙ sym (ap (λ own. settled_with limits own acts answer) next_is) ∙ settled_is) keeps.covered
