-- no post of the sessions so far
use Rattle.std.proofs.Common.{◌≡◌, [], map, replicate}
use Rattle.journal_check.proofs.tree_acts.no_posts.Given as goal

abbrev pub invariant-loop : goal.invariant-loop
invariant-loop l = map (λ own. own.items) l.posts.items ≡ replicate l.counter []
