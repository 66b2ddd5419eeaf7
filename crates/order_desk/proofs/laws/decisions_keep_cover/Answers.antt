-- What is decided on a request keeps the book's orders covered.
use Rattle.order_desk.proofs.DecidedCovers.{new_covers, cancel_covers, replace_covers}
use Rattle.order_desk.proofs.laws.decisions_keep_cover.Goals as goal

pub returns-clause-new : goal.returns-clause-new
returns-clause-new c = new_covers

pub returns-clause-cancel : goal.returns-clause-cancel
returns-clause-cancel c = cancel_covers

pub returns-clause-replace : goal.returns-clause-replace
returns-clause-replace c = replace_covers
