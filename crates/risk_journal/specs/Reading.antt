-- How a journal is read, row by row behind the header.
use Rattle.std.specs.Prelude.{◌≡◌, ℕ, zero, suc, ◌+◌, ◌≤◌, List, [], ◌∷◌, ◌++◌, length, fold, ⊤}
use Rattle.std.specs.Prelude.{slice_index_or}
use Rattle.risk_board.specs.declared.hand.Line.{Line}
use Rattle.risk_journal.specs.declared.acts.Act.{Act}
use Rattle.risk_journal.specs.declared.acts.Act.TheVariants.{Post, Read, Sent, Refused, Noted}
use Rattle.risk_journal.specs.declared.acts.Act.TheVariants.{Ended}
use Rattle.risk_journal.specs.declared.rows.Row.{Row}
use Rattle.risk_journal.specs.declared.rows.Row.TheVariants.{OfSession, OfTree}

-- what was read: the sessions that ended, the acts of one that goes on, and the lines by tree
pub record Taken : Type 0 where
  pub ended : List (List Act)
  pub begun : List Act
  pub trees : List (List Line)

-- nothing was read
abbrev pub none_taken : Taken
none_taken = record { ended = []; begun = []; trees = [] }

-- an act more
abbrev pub with_act : Taken → Act → Taken
with_act taken (Ended end) = record {
  ended = taken.ended ++ (taken.begun ++ Ended end ∷ []) ∷ [];
  begun = [];
  trees = taken.trees;
}
with_act taken (Post tree index value) =
    record taken { begun = taken.begun ++ Post tree index value ∷ [] }
with_act taken (Read tree stamp place value) =
    record taken { begun = taken.begun ++ Read tree stamp place value ∷ [] }
with_act taken (Sent frame) = record taken { begun = taken.begun ++ Sent frame ∷ [] }
with_act taken (Refused frame code first second) =
    record taken { begun = taken.begun ++ Refused frame code first second ∷ [] }
with_act taken (Noted frame code first second) =
    record taken { begun = taken.begun ++ Noted frame code first second ∷ [] }

-- a line more in the tree with this number, with empty trees before it where there are none
abbrev pub put_line : List (List Line) → ℕ → Line → List (List Line)
put_line [] zero line = (line ∷ []) ∷ []
put_line [] (suc tree) line = [] ∷ put_line [] tree line
put_line (lines ∷ trees) zero line = (lines ++ line ∷ []) ∷ trees
put_line (lines ∷ trees) (suc tree) line = lines ∷ put_line trees tree line

-- a row more
abbrev pub with_row : Taken → Row → Taken
with_row taken (OfSession session act) = with_act taken act
with_row taken (OfTree tree place line) =
    record taken { trees = put_line taken.trees tree line }

-- the row may come next
abbrev pub MayFollow : Taken → Row → Type 0
MayFollow taken (OfSession session act) = (session ≡ length taken.ended) × (taken.trees ≡ [])
MayFollow taken (OfTree tree place line) =
    (taken.begun ≡ []) × (length taken.trees ≤ tree + 1)
    × (place ≡ length (slice_index_or taken.trees tree []) + 1)

-- all rows taken, one after another
abbrev pub with_rows : Taken → List Row → Taken
with_rows taken rows = fold with_row taken rows

-- each of the rows may come after those before it
abbrev pub MayAllFollow : Taken → List Row → Type 0
MayAllFollow taken [] = ⊤
MayAllFollow taken (row ∷ rows) = MayFollow taken row × MayAllFollow (with_row taken row) rows
