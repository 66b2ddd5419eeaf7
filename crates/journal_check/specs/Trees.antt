-- What a journal tells of one tree.
use Rattle.std.specs.Prelude.{ℕ, List, [], map, slice_index_or, max, ◌==◌, if◌then◌else◌}
use Rattle.fold_law.specs.Sum.{sum_of}
use Rattle.fold_law.specs.Whole.{whole_of}
use Rattle.risk_board.specs.declared.hand.Line.{Line}
use Rattle.risk_board.specs.History.{Event, posted}
use Rattle.risk_journal.specs.ActLists.{events_of}
use Rattle.risk_journal.specs.declared.acts.Act.{Act}

-- what each session did in a tree
abbrev pub tree_events : ℕ → List (List Act) → List (List Event)
tree_events tree acts = map (events_of tree) acts

-- what each session posted in a tree
abbrev pub tree_posts : ℕ → List (List Act) → List (List ℕ)
tree_posts tree acts = map posted (tree_events tree acts)

-- the lines of a tree
abbrev pub tree_lines : ℕ → List (List Line) → List Line
tree_lines tree lines = slice_index_or lines tree []

-- the fold of a tree: the largest in the last, which is the halt tree, and else the sum
abbrev pub fold_in : ℕ → ℕ → List ℕ → ℕ
fold_in last tree = if tree == last then whole_of max 0 else whole_of sum_of 0
