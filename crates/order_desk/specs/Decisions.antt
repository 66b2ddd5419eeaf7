-- What is decided on an order, a cancel and a replace, as a function of the book, the acts and the
-- reads.
use Rattle.std.specs.Prelude.{◌≡◌, List, ◌++◌, Option, Some, None, Result, Ok, Err, Bool}
use Rattle.std.specs.Prelude.{[], true, false, ◌||◌, nat_lt}
use Rattle.std.specs.List.{list_any}
use Rattle.fix_orders.specs.declared.message.NewOrder.{NewOrder}
use Rattle.fix_orders.specs.declared.message.Cancel.{Cancel}
use Rattle.fix_orders.specs.declared.message.Replace.{Replace}
use Rattle.limit_table.specs.Trees.{LimitsValue}
use Rattle.exposure_book.specs.declared.answer.BookFault.{BookFault}
use Rattle.exposure_book.specs.Books.{BookValue}
use Rattle.exposure_book.specs.Proposals.{proposal_of_cancel}
use Rattle.exposure_book.specs.Commits.{with_new, with_cancel_pending, with_replace_pending}
use Rattle.risk_journal.specs.declared.acts.Act.{Act}
use Rattle.risk_journal.specs.ActLists.{SeenAt, reads_of}
use Rattle.screen_kit.specs.Screens.{ScreenValue}
use Rattle.screen_kit.specs.Sets.{first_code, after_asking}
use Rattle.admit_core.specs.Asking.{Asked, asking}
use Rattle.admit_core.specs.Legs.{Leg, legs_of}
use Rattle.admit_core.specs.Tapes.{Tape, tape}
use Rattle.order_desk.specs.declared.offer.Offer.{Offer}
use Rattle.order_desk.specs.declared.refusal.Refusal.{Refusal}
use Rattle.order_desk.specs.Offers.{new_offer, replace_offer}
use Rattle.order_desk.specs.Refusals.{refusal_by, refusal_of, refusal_by_code}
use Rattle.order_desk.specs.Values.{values_of}

-- what was decided: why the request is refused, if it is, the acts by then, and the book
pub record Decision : Type 0 where
  pub refusal : Option Refusal
  pub tape : Tape
  pub book : BookValue

-- refused: the book stays
abbrev pub refused : Refusal → BookValue → Tape → Decision
refused why book before = record { refusal = Some why; tape = before; book = book }

-- sent without a post or a read
abbrev pub sent_at_once : BookValue → Tape → Decision
sent_at_once next before = record { refusal = None; tape = before; book = next }

-- the request is committed where nothing refuses it
abbrev pub committed : Option Refusal → BookValue → BookValue → BookValue
committed None book next = next
committed (Some why) book next = book

-- what the trees answered decides
abbrev pub decided_by : BookValue → BookValue → Asked → Decision
decided_by book next asked = record {
  refusal = refusal_by asked.verdict;
  tape = asked.tape;
  book = committed (refusal_by asked.verdict) book next;
}

-- the legs of what is offered
abbrev pub offer_legs : LimitsValue → Offer → List Act → List Leg
offer_legs limits offer acts = legs_of limits offer.rows acts (values_of offer.values)

-- one of the new values is above what was last posted in its tree
abbrev pub is_above_last : List Leg → Bool
is_above_last legs = list_any (λ leg. nat_lt leg.old leg.new) legs

-- the trees are asked, or the request is sent at once
abbrev pub taken_up : Bool → LimitsValue → Offer → BookValue → BookValue → Tape → Decision
taken_up false limits offer book next before = sent_at_once next before
taken_up true limits offer book next before =
    decided_by book next (asking limits (offer_legs limits offer before.acts) before)

-- what is decided on an offer that no screen refuses: the trees are asked where that is always so, and
-- else where a value is above what was last posted
abbrev pub tree_decided : LimitsValue → Offer → BookValue → BookValue → Tape → Decision
tree_decided limits offer book next before =
    taken_up (offer.always || is_above_last (offer_legs limits offer before.acts)) limits offer book
    next before

-- a screen's refusal comes before what is decided without screens, and then nothing is done
abbrev pub screened : Option Refusal → BookValue → Tape → Decision → Decision
screened None book before decision = decision
screened (Some why) book before decision = refused why book before

-- what is decided on an offer: a screen's code, then what the trees answer
abbrev pub judged : LimitsValue → List ScreenValue → Offer → BookValue → BookValue → Tape → Decision
judged limits screens offer book next before =
    screened (refusal_by_code (first_code offer.seen screens)) book before
    (tree_decided limits offer book next before)

-- the same where there may be none
abbrev pub decided_on : LimitsValue → List ScreenValue → (Offer → BookValue) → BookValue → Tape
    → Result Offer Refusal → Decision
decided_on limits screens next book before (Err why) = refused why book before
decided_on limits screens next book before (Ok offer) =
    judged limits screens offer book (next offer) before

-- the book with the order (D) that is offered
abbrev pub new_next : NewOrder → BookValue → Offer → BookValue
new_next order book offer =
    with_new order offer.rows.account offer.rows.symbol offer.seen.high book

-- what is decided on an order (D): an unknown account or symbol, then the book's faults, then a
-- screen's code, then what the trees answer
abbrev pub new_screened : LimitsValue → NewOrder → List ScreenValue → BookValue → Tape → Decision
new_screened limits order screens book before =
    decided_on limits screens (new_next order book) book before (new_offer limits order book)

-- the book with the replace (G) pending, whatever its offer
abbrev pub replace_next : LimitsValue → Replace → BookValue → Offer → BookValue
replace_next limits request book offer = with_replace_pending request limits book

-- what is decided on a replace (G): the book's faults, then a screen's code, then what the trees
-- answer where they are asked
abbrev pub replace_screened : LimitsValue → Replace → List ScreenValue → BookValue → Tape
    → Decision
replace_screened limits request screens book before =
    decided_on limits screens (replace_next limits request book) book before
    (replace_offer limits request book)

-- what is decided on an order, and on a replace, where there is no screen
abbrev pub new_decided : LimitsValue → NewOrder → BookValue → Tape → Decision
new_decided limits order book before = new_screened limits order [] book before

abbrev pub replace_decided : LimitsValue → Replace → BookValue → Tape → Decision
replace_decided limits request book before = replace_screened limits request [] book before

-- a cancel by what the book proposes
abbrev pub cancel_by : Cancel → BookValue → Tape → Result (Unit {0}) BookFault → Decision
cancel_by request book before (Err fault) = refused (refusal_of fault) book before
cancel_by request book before (Ok nothing) =
    sent_at_once (with_cancel_pending request book) before

-- what is decided on a cancel (F): the book's faults, and else it is sent
abbrev pub cancel_decided : Cancel → BookValue → Tape → Decision
cancel_decided request book before =
    cancel_by request book before (proposal_of_cancel book request)

-- the screens after they were asked about what is offered; they aren't asked about what isn't
abbrev pub screens_after : List ScreenValue → Result Offer Refusal → List ScreenValue
screens_after screens (Err why) = screens
screens_after screens (Ok offer) = after_asking offer.seen screens

-- A request was decided on so: by the reads that the acts have, whatever further reads are to come.
pub record Decides (decide : BookValue → Tape → Decision) (acts acts_after : List Act)
    (book book_after : BookValue) (answer : Option Refusal) : Type 0 where
  pub seen : List SeenAt
  pub reads_are : reads_of acts_after ≡ reads_of acts ++ seen
  pub decided : (more : List SeenAt) → decide book (tape acts (seen ++ more))
      ≡ record { refusal = answer; tape = tape acts_after more; book = book_after }

-- It was decided so whatever the book is, and whatever it becomes if the request is sent.
abbrev pub Judges : (BookValue → BookValue → Tape → Decision) → List Act → List Act
    → Option Refusal → Type 0
Judges decide acts acts_after answer =
    (book next : BookValue) → Decides (λ own before. decide own next before) acts acts_after book
    (committed answer book next) answer
