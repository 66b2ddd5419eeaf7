-- A session takes its reads in order.
use Rattle.session_engine.proofs.PlacedFollows.{takes_in_order}
use Rattle.session_engine.proofs.session_law.reads_are_taken_in_order.Goals as goal

pub returns : goal.returns
returns c = takes_in_order
