use Rattle.tree_check.proofs.WalkedReads.{legal_walked}
use Rattle.tree_check.proofs.laws.legal_reads_are_walked.Goals as goal

pub returns : goal.returns
returns g c =
    legal_walked g.F.Fold.UNIT g.F.Fold.CAP g.F.Fold.join g.F.Fold.le g.F.Fold.under
    g.met.F.Fold.laws
