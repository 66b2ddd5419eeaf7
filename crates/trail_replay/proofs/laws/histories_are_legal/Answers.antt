use Rattle.trail_replay.proofs.LegalHistories.{legal_history}
use Rattle.trail_replay.proofs.laws.histories_are_legal.Goals as goal

pub returns : goal.returns
returns g c taken tree lawful tree_in =
    legal_history g.F.Fold.UNIT g.F.Fold.CAP g.F.Fold.join g.F.Fold.le g.F.Fold.under
    g.met.F.Fold.laws taken tree lawful tree_in
