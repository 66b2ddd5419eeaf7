-- After any frames the orders sent are covered.
use Rattle.session_engine.proofs.CoverLemmas.{covers_orders}
use Rattle.session_engine.proofs.session_law.sent_orders_are_covered.Goals as goal

pub returns : goal.returns
returns c = covers_orders
