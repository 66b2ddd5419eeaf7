-- the rows with the installs of the passes so far
use Rattle.std.proofs.Common.{◌≡◌, ◌^◌, map, take}
use Rattle.trail_replay.specs.Reads.{rows_of, empty_rows, end_stamp}
use Rattle.trail_replay.proofs.reads.rows_in.Given as goal

abbrev pub invariant-loop-did : goal.invariant-loop-did
invariant-loop-did l =
    map (λ nodes. map (λ row. row.items) nodes.items) l.rows.items
    ≡ rows_of (empty_rows (end_stamp l.taken) (2 ^ l.taken.shape.levels) l.taken.shape.trees)
    (take l.did-index l.taken.passes.items)
