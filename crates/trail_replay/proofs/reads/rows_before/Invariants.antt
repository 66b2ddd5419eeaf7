-- the rows of the trees so far
use Rattle.std.proofs.Common.{◌≡◌, ◌^◌, map}
use Rattle.trail_replay.specs.Reads.{empty_rows, end_stamp}
use Rattle.trail_replay.proofs.reads.rows_before.Given as goal

abbrev pub invariant-loop-tree : goal.invariant-loop-tree
invariant-loop-tree l =
    map (λ nodes. map (λ row. row.items) nodes.items) l.rows.items
    ≡ empty_rows (end_stamp l.taken) (2 ^ l.taken.shape.levels) l.tree
