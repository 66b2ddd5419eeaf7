-- the rows with the installs so far
use Rattle.std.proofs.Common.{◌≡◌, map, take}
use Rattle.trail_replay.specs.Reads.{rows_after}
use Rattle.trail_replay.proofs.reads.add_trail.Given as goal

abbrev pub invariant-loop-install : goal.invariant-loop-install
invariant-loop-install l =
    map (λ nodes. map (λ row. row.items) nodes.items) l.rows.items
    ≡ rows_after (map (λ nodes. map (λ row. row.items) nodes.items) l.initial.rows.items)
    (take l.install-index l.trail)
