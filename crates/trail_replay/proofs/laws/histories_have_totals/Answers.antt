use Rattle.trail_replay.proofs.Totals.{few_lines, leaves_are}
use Rattle.trail_replay.proofs.laws.histories_have_totals.Goals as goal

pub returns-clause-few : goal.returns-clause-few
returns-clause-few g c taken tree lawful tree_in =
    few_lines g.F.Fold.UNIT g.F.Fold.CAP g.F.Fold.join taken tree lawful tree_in

pub returns-clause-leaves : goal.returns-clause-leaves
returns-clause-leaves g c taken tree components lawful low =
    leaves_are g.F.Fold.UNIT g.F.Fold.CAP g.F.Fold.join taken tree components lawful low
