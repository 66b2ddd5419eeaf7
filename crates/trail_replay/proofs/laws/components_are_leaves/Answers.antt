use Rattle.trail_replay.proofs.Leaves.{components_are}
use Rattle.trail_replay.proofs.laws.components_are_leaves.Goals as goal

pub returns : goal.returns
returns c sessions levels some least = components_are sessions levels least
