use Rattle.trail_replay.proofs.ClosedRecords.{closed_is_lawful}
use Rattle.trail_replay.proofs.laws.closed_records_are_lawful.Goals as goal

pub returns : goal.returns
returns g c forest passes taken are shape did kept =
    closed_is_lawful g.F.Fold.UNIT g.F.Fold.CAP g.F.Fold.join forest passes taken are shape did kept
