-- the lists with the calls so far
use Rattle.std.proofs.Common.{◌≡◌, map, take}
use Rattle.trail_replay.specs.Reads.{lists_of}
use Rattle.trail_replay.proofs.tree_posts.lists_by.Given as goal

abbrev pub invariant-loop-call : goal.invariant-loop-call
invariant-loop-call l =
    map (λ values. values.items) l.lists.items ≡ lists_of l.trees (take l.call-index l.calls)
