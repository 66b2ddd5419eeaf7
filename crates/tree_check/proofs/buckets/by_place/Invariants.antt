-- the reads so far
use Rattle.std.proofs.Common.{◌≡◌, map}
use Rattle.trail_replay.specs.Reads.{list_below}
use Rattle.tree_check.proofs.Bucketed.{first_at}
use Rattle.tree_check.proofs.buckets.by_place.Given as goal

abbrev pub invariant-loop-read : goal.invariant-loop-read
invariant-loop-read l = map (λ own. own.items) l.all.items
    ≡ list_below (first_at l.reads l.read-index) l.places
