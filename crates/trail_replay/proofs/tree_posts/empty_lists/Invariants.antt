-- no posts in the trees so far
use Rattle.std.proofs.Common.{◌≡◌, [], map, replicate}
use Rattle.trail_replay.proofs.tree_posts.empty_lists.Given as goal

abbrev pub invariant-loop : goal.invariant-loop
invariant-loop l = map (λ values. values.items) l.lists.items ≡ replicate l.counter []
