-- The text of the journal: each session's acts, and then the lines of each tree.
use Rattle.std.specs.Prelude.{ℕ, List, [], ◌∷◌, ◌++◌, codes, decimal}
use Rattle.std.specs.List.{flat_map, enumerate_from, join_with_byte}
use Rattle.risk_board.specs.declared.hand.Line.{Line}
use Rattle.risk_journal.specs.declared.acts.Act.{Act}
use Rattle.risk_journal.specs.declared.acts.Act.TheVariants.{Post, Read, Sent, Refused, Noted}
use Rattle.risk_journal.specs.declared.acts.Act.TheVariants.{Ended}
use Rattle.risk_journal.specs.declared.acts.End.{End}
use Rattle.risk_journal.specs.declared.acts.End.TheVariants as ending

-- a row of cells, with commas between them and LF behind
abbrev pub row_text : List (List ℕ) → List ℕ
row_text cells = join_with_byte 44 cells ++ 10 ∷ []

-- the number of an end
abbrev pub end_number : End → ℕ
end_number ending.Whole = 0
end_number (ending.Cut place) = 1
end_number (ending.Broken place) = 2
end_number (ending.TooLong place) = 3
end_number ending.ReadFault = 4
end_number ending.WriteFault = 5
end_number ending.Memory = 6

-- the place of an end, where it has one
abbrev pub end_place : End → List ℕ
end_place ending.Whole = []
end_place (ending.Cut place) = decimal place
end_place (ending.Broken place) = decimal place
end_place (ending.TooLong place) = decimal place
end_place ending.ReadFault = []
end_place ending.WriteFault = []
end_place ending.Memory = []

-- the cells of an act after its session: kind first, and the four columns
abbrev pub act_cells : ℕ → Act → List (List ℕ)
act_cells session (Post tree index value) =
    codes "post" ∷ decimal session ∷ decimal tree ∷ decimal index ∷ decimal value ∷ [] ∷ []
act_cells session (Read tree stamp place value) =
    codes "read" ∷ decimal session ∷ decimal tree ∷ decimal stamp ∷ decimal place ∷ decimal value ∷ []
act_cells session (Sent frame) =
    codes "sent" ∷ decimal session ∷ decimal frame ∷ [] ∷ [] ∷ [] ∷ []
act_cells session (Refused frame code first second) =
    codes "refused" ∷ decimal session ∷ decimal frame ∷ decimal code ∷ decimal first
    ∷ decimal second ∷ []
act_cells session (Noted frame code first second) =
    codes "noted" ∷ decimal session ∷ decimal frame ∷ decimal code ∷ decimal first
    ∷ decimal second ∷ []
act_cells session (Ended end) =
    codes "ended" ∷ decimal session ∷ decimal (end_number end) ∷ end_place end ∷ [] ∷ [] ∷ []

-- the row of an act of a session
abbrev pub act_text : ℕ → Act → List ℕ
act_text session act = row_text (act_cells session act)

-- the row of a line of a tree, at its place in the history from 1
abbrev pub line_text : ℕ → ℕ → Line → List ℕ
line_text tree place line =
    row_text (codes "line" ∷ decimal line.session ∷ decimal tree ∷ decimal place
    ∷ decimal line.index ∷ decimal line.value ∷ [])

-- the rows of a session's acts
abbrev pub session_text : ℕ × List Act → List ℕ
session_text numbered = flat_map (act_text numbered.0) numbered.1

-- the rows of a tree's lines
abbrev pub tree_text : ℕ × List Line → List ℕ
tree_text numbered =
    flat_map (λ placed. line_text numbered.0 placed.0 placed.1) (enumerate_from 1 numbered.1)

-- the first row
abbrev pub header_text : List ℕ
header_text = codes "kind,session,a,b,c,d" ++ 10 ∷ []

-- the whole journal
abbrev pub journal_text : List (List Act) → List (List Line) → List ℕ
journal_text acts lines =
    header_text ++ flat_map session_text (enumerate_from 0 acts)
    ++ flat_map tree_text (enumerate_from 0 lines)
