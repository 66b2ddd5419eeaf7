-- After any frames the halt tree was tripped once, or never.
use Rattle.session_engine.proofs.CoverLemmas.{trips_once}
use Rattle.session_engine.proofs.session_law.halt_is_tripped_once.Goals as goal

pub returns : goal.returns
returns c = trips_once
