-- In a legal history what is admitted is what the sessions' own events admit.
use Rattle.std.proofs.Common.{ap}
use Rattle.std.proofs.Common.{ℕ, List}
use Rattle.risk_board.specs.declared.hand.Line.{Line}
use Rattle.risk_board.specs.History.{Event, IsLegal}
use Rattle.admit_core.proofs.OwnStandings.{ends, stands_after, all_end}
use Rattle.cross_guard.specs.Standings.{after_post, after_read, admitted_join, AdmitsOwn}

pub admits_own : (whole : List ℕ → ℕ) (unit components : ℕ) (lines : List Line)
    (events : List (List Event)) → IsLegal whole unit components lines events
    → AdmitsOwn lines events
admits_own whole unit components lines events legal = record {
  front = stands_after after_post after_read whole unit components lines events legal;
  whole = ends after_post after_read whole unit components lines events legal;
  total = ap admitted_join
      (all_end after_post after_read whole unit components lines events legal);
}
