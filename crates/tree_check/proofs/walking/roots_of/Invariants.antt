-- the roots so far, and where the walk stands
use Rattle.std.proofs.Common.{◌≡◌, ◌≤◌}
use Rattle.trail_replay.specs.Arrays.{whole_at}
use Rattle.trail_replay.specs.Reads.{list_below}
use Rattle.tree_check.proofs.walking.roots_of.Given as goal

abbrev pub invariant-loop-place : goal.invariant-loop-place
invariant-loop-place g l =
    (l.roots.items ≡ list_below (whole_at g.F.Fold.join g.F.Fold.UNIT l.history.lines.items) l.place)
    × (l.walk.lines ≡ l.history.lines.items) × (l.walk.place ≤ l.place)
