-- the reads of the sessions so far
use Rattle.std.proofs.Common.{◌≡◌, map}
use Rattle.trail_replay.specs.Reads.{list_below}
use Rattle.tree_check.proofs.ByTree.{first_reads}
use Rattle.tree_check.proofs.read_at.reads_by_tree.Given as goal

abbrev pub invariant-loop-session : goal.invariant-loop-session
invariant-loop-session l = map (λ own. own.items) l.all.items
    ≡ list_below (first_reads (map (λ own. own.items) l.acts) l.session) l.trees
