-- the history up to the stamp so far
use Rattle.std.proofs.Common.{◌≡◌}
use Rattle.trail_replay.specs.Blocks.{places_to}
use Rattle.trail_replay.specs.Fronts.{front_of}
use Rattle.trail_replay.specs.Histories.{posts_of_tree, lines_of_tree}
use Rattle.trail_replay.proofs.blocks.history_to.Given as goal

abbrev pub invariant-loop-stamp : goal.invariant-loop-stamp
invariant-loop-stamp l = record {
  lines : l.lines.items ≡ lines_of_tree l.prepared l.tree l.stamp;
  places : l.places.items
      ≡ places_to (front_of l.prepared.shape.levels l.prepared.passes.items l.tree)
      (posts_of_tree l.tree l.prepared.passes.items) l.stamp;
}
