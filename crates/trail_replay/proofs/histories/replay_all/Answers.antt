use Rattle.trail_replay.specs.Replayed.{IsLawfulTree}
use Rattle.trail_replay.proofs.ReplayedTrees.{all_of_prepared, replayed_of}
use Rattle.trail_replay.proofs.histories.replay_all.Goals as goal

pub map_all-requires-after_bounds : goal.map_all-requires-after_bounds
map_all-requires-after_bounds g c κs within =
    all_of_prepared
    (λ own tree. IsLawfulTree g.F.Fold.UNIT g.F.Fold.CAP g.F.Fold.join own tree)
    c.in_ok-prepared.prepared c.args.taken.now c.in_ok-trees.trees.items c.args.taken.now.shape.trees
    c.in_ok-prepared.ensures c.in_ok-trees.ensures
    (λ tree below. record { lawful = c.requires.lawful; below = below })

pub returns-in-Ok : goal.returns-in-Ok
returns-in-Ok g c =
    replayed_of c.in_ok-prepared.prepared c.args.taken.now c.in_ok-trees.trees.items _
    c.in-Ok.all.items c.in_ok-prepared.ensures c.in_ok-trees.ensures c.in-Ok.ensures.ok
