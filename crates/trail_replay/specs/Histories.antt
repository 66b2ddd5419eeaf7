-- The history of a tree of a record, and the events of the sessions with the places of their reads.
use Rattle.std.specs.Prelude.{ℕ, ◌^◌, List, map, slice_index}
use Rattle.fold_law.specs.Whole.{whole_of}
use Rattle.risk_board.specs.declared.hand.Line.{Line}
use Rattle.risk_board.specs.History.{Event, IsLegal, events_of_calls}
use Rattle.node_rule.specs.Sums.{posted}
use Rattle.f_array.specs.declared.record.Record.{Record}
use Rattle.f_array.specs.Records.{Did}
use Rattle.trail_replay.specs.Blocks.{lines_to, place_at, places_to}
use Rattle.trail_replay.specs.Fronts.{front_of, last_stamp}

-- the values that each session posted in the tree, in order
abbrev pub posts_of_tree : ℕ → List Did → List (List ℕ)
posts_of_tree tree passes = map (λ did. posted tree did.calls) passes

-- the lines of a tree, up to the block of this stamp of its root
abbrev pub lines_of_tree : Record → ℕ → ℕ → List Line
lines_of_tree taken tree stamp =
    lines_to (front_of taken.shape.levels taken.passes.items tree)
    (posts_of_tree tree taken.passes.items) stamp

-- how many lines of a tree stand up to the block of this stamp
abbrev pub place_in_tree : Record → ℕ → ℕ → ℕ
place_in_tree taken tree stamp =
    place_at (front_of taken.shape.levels taken.passes.items tree)
    (posts_of_tree tree taken.passes.items) stamp

-- the history of a tree: the blocks of all stamps of its root
abbrev pub history_of : Record → ℕ → List Line
history_of taken tree = lines_of_tree taken tree (last_stamp taken tree)

-- the places of all stamps of its root
abbrev pub places_of : Record → ℕ → List ℕ
places_of taken tree =
    places_to (front_of taken.shape.levels taken.passes.items tree)
    (posts_of_tree tree taken.passes.items) (last_stamp taken tree)

-- what each session did in the tree, with the place of a read by its stamp
abbrev pub placed_events : Record → ℕ → List (List Event)
placed_events taken tree =
    map (λ did. events_of_calls (place_in_tree taken tree) tree did.calls) taken.passes.items

-- the history of a tree, with the calls of all sessions, is legal
abbrev pub HasLegalHistory : (ℕ → ℕ → ℕ) → ℕ → Record → ℕ → Type 0
HasLegalHistory join unit taken tree =
    IsLegal (whole_of join unit) unit (2 ^ taken.shape.levels) (history_of taken tree)
    (placed_events taken tree)

-- these lines and places of a tree, with the calls of all sessions, are one legal history
abbrev pub AreLegalIn : (ℕ → ℕ → ℕ) → ℕ → Record → ℕ → List Line → List ℕ → Type 0
AreLegalIn join unit taken tree lines places =
    IsLegal (whole_of join unit) unit (2 ^ taken.shape.levels) lines
    (map (λ did. events_of_calls (λ stamp. slice_index places stamp) tree did.calls)
    taken.passes.items)
