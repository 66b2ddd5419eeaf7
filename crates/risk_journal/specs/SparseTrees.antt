-- Lines kept only of the trees that have some, and the lists by tree that they stand for.
use Rattle.std.specs.Prelude.{ℕ, ◌+◌, ◌-◌, ◌≤◌, ◌<◌, List, [], ◌∷◌, ◌++◌, length, replicate, ⊤}
use Rattle.risk_board.specs.declared.hand.Line.{Line}
use Rattle.risk_journal.specs.declared.sparse.TreeLines.{TreeLines}

-- the lines of all trees from a number on, by tree: none of a tree that isn't kept
abbrev pub expand_from : ℕ → List TreeLines → List (List Line)
expand_from next [] = []
expand_from next (own ∷ trees) =
    replicate (own.tree - next) [] ++ own.lines.items ∷ expand_from (own.tree + 1) trees

-- each tree has lines, and the trees follow by ascending number, from this one on
abbrev pub AreRising : ℕ → List TreeLines → Type 0
AreRising next [] = ⊤
AreRising next (own ∷ trees) =
    (next ≤ own.tree) × (0 < length own.lines.items) × AreRising (own.tree + 1) trees
