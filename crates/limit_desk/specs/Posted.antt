-- What an officer's acts are in each tree.
use Rattle.std.specs.Prelude.{◌≡◌, ℕ, ◌==◌, List, map}
use Rattle.std.specs.List.{filter}
use Rattle.limit_table.specs.Trees.{LimitsValue, halt_tree}
use Rattle.risk_board.specs.History.{Event}
use Rattle.risk_board.specs.History.Event.{Posted}
use Rattle.risk_journal.specs.declared.acts.End.{End}
use Rattle.risk_journal.specs.ActLists.{events_of}
use Rattle.limit_desk.specs.declared.officer.OfficerRow.{OfficerRow}
use Rattle.limit_desk.specs.Posting.{officer_acts, tree_number}

-- the values of the rows of a tree, in order, by the tree's number
abbrev pub values_in : ℕ → ℕ → List OfficerRow → List ℕ
values_in halt_tree number rows =
    map (λ row. row.value) (filter (λ row. tree_number halt_tree row.tree == number) rows)

-- the posts of these values
abbrev pub all_posted : List ℕ → List Event
all_posted values = map (λ value. Posted value) values

-- In each tree the acts are the posts of its rows' values, in their order, and nothing else.
abbrev pub PostsTheirRows : LimitsValue → List OfficerRow → End → Type 0
PostsTheirRows limits rows end =
    (number : ℕ) → events_of number (officer_acts limits rows end)
    ≡ all_posted (values_in (halt_tree limits) number rows)
