use Rattle.trail_replay.proofs.BlockSteps.{part-between}
use Rattle.trail_replay.proofs.posts.add_between.Goals as goal

pub returns : goal.returns
returns c =
    let same = part-between c.args.before c.args.upto c.args.values.now c.requires.ordered in
    rw (← same) c.add_lines.ensures
