-- the lists of the sessions so far
use Rattle.std.proofs.Common.{◌≡◌, map, take}
use Rattle.trail_replay.specs.Reads.{lists_of}
use Rattle.trail_replay.proofs.tree_posts.lists_in.Given as goal

abbrev pub invariant-loop-did : goal.invariant-loop-did
invariant-loop-did l =
    map (λ lists. map (λ values. values.items) lists.items) l.all.items
    ≡ map (λ did. lists_of l.trees did.calls) (take l.did-index l.passes)
