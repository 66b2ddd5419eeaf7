-- A refusal by a screen comes from the screens alone.
use Rattle.exposure_book.specs.Commits.{with_replace_pending}
use Rattle.order_desk.specs.Decisions.{new_next}
use Rattle.order_desk.specs.Offers.{new_offer, replace_offer}
use Rattle.order_desk.proofs.Deciding.{refused_alone}
use Rattle.order_desk.proofs.laws.a_screens_refusal_changes_nothing.Goals as goal

pub returns-clause-new : goal.returns-clause-new
returns-clause-new c = λ limits order screens book before code.
    refused_alone book before code limits screens (new_next order book)
    (new_offer limits order book)

pub returns-clause-replace : goal.returns-clause-replace
returns-clause-replace c = λ limits request screens book before code.
    refused_alone book before code limits screens
    (λ offer. with_replace_pending request limits book) (replace_offer limits request book)
