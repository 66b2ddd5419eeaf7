-- A history from fronts: block after block, each by rising session and index.
use Rattle.std.specs.Prelude.{ℕ, zero, suc, ◌+◌, List, [], ◌∷◌, ◌++◌, length, take, drop}
use Rattle.risk_board.specs.declared.hand.Line.{Line}
use Rattle.risk_board.specs.History.{own_lines}

-- the lines of a session's posts after the first so many, up to another number of them
abbrev pub lines_between : ℕ → ℕ → ℕ → List ℕ → List Line
lines_between session before upto values =
    own_lines session (before + 1) (drop before (take upto values))

-- the lines of the posts that one front covers and the front before it doesn't, session by session
-- from this one on
abbrev pub block_from : (ℕ → ℕ) → (ℕ → ℕ) → ℕ → List (List ℕ) → List Line
block_from before upto session [] = []
block_from before upto session (values ∷ posts) =
    lines_between session (before session) (upto session) values
    ++ block_from before upto (session + 1) posts

-- the blocks of all stamps up to this one; that of the stamp 0 is empty
abbrev pub lines_to : (ℕ → ℕ → ℕ) → List (List ℕ) → ℕ → List Line
lines_to front posts zero = []
lines_to front posts (suc stamp) =
    lines_to front posts stamp ++ block_from (front stamp) (front (suc stamp)) 0 posts

-- how many lines stand in the blocks up to this stamp
abbrev pub place_at : (ℕ → ℕ → ℕ) → List (List ℕ) → ℕ → ℕ
place_at front posts stamp = length (lines_to front posts stamp)

-- the places of all stamps up to this one, from 0 on
abbrev pub places_to : (ℕ → ℕ → ℕ) → List (List ℕ) → ℕ → List ℕ
places_to front posts zero = 0 ∷ []
places_to front posts (suc stamp) =
    places_to front posts stamp ++ place_at front posts (suc stamp) ∷ []
