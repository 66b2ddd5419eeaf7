use Rattle.std.proofs.Common.{◌≡◌, ap, ◌∙◌, ◌+◌, ◌++◌, arith, length}
use Rattle.trail_replay.specs.Blocks.{block_from}
use Rattle.trail_replay.specs.Fronts.{front_of}
use Rattle.trail_replay.specs.Histories.{posts_of_tree, lines_of_tree}
use Rattle.trail_replay.proofs.BlockSteps.{lines_to-next, lines_count}
use Rattle.trail_replay.proofs.blocks.history_to.Goals as goal

pub overflow_cast-len : goal.overflow_cast-len
overflow_cast-len c =
    let taken = c.args.prepared.now in
    let stamp = c.loop-stamp.stamp in
    let front = front_of taken.shape.levels taken.passes.items c.args.tree in
    let posts = posts_of_tree c.args.tree taken.passes.items in
    let all : c.add_block.new.lines.items ≡ lines_of_tree taken c.args.tree (stamp + 1) =
    c.in_ok-add_block.ensures
    ∙ (ap (λ s. s ++ block_from (front stamp) (front (stamp + 1)) 0 posts)
    c.loop-stamp.invariant.lines
    ∙ lines_to-next front posts stamp) in
    let few = lines_count taken c.requires.stamped c.args.tree c.requires.tree (stamp + 1)
    (omega (arith, c.requires.last)) in
    let same = ap length all in
    omega (arith, c.len.ensures)
