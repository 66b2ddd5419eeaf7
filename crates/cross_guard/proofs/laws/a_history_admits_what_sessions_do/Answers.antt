-- In a legal history what is admitted is what the sessions' own events admit.
use Rattle.cross_guard.proofs.OwnAdmits.{admits_own}
use Rattle.cross_guard.proofs.laws.a_history_admits_what_sessions_do.Goals as goal

pub returns : goal.returns
returns c = λ whole unit components lines events legal.
    admits_own whole unit components lines events legal
