-- In which row of a journal's text each act and each line stands. Rows are counted from 1, and the
-- header is the first: the acts follow session by session, and then the lines tree by tree.
use Rattle.std.specs.Prelude.{◌≡◌, ℕ, ◌+◌, List, [], length, take, sum_by, Some, slice_get}
use Rattle.std.specs.Prelude.{slice_index_or}
use Rattle.risk_board.specs.declared.hand.Line.{Line}
use Rattle.risk_journal.specs.declared.acts.Act.{Act}

-- how many items these lists have together
abbrev pub count_all : {X : Type 0} → List (List X) → ℕ
count_all {X} lists = sum_by (λ (own : List X). length own) lists

-- the row of a session's act, both from 0
abbrev pub act_row : List (List Act) → ℕ → ℕ → ℕ
act_row acts session index = 2 + count_all (take session acts) + index

-- the row of a tree's line, both from 0
abbrev pub line_row : List (List Act) → List (List Line) → ℕ → ℕ → ℕ
line_row acts lines tree place = 2 + count_all acts + count_all (take tree lines) + place

-- the act stands in this row
pub record HasAct (acts : List (List Act)) (row : ℕ) (act : Act) : Type 0 where
  pub session : ℕ
  pub index : ℕ
  pub own : List Act
  pub of_session : slice_get acts session ≡ Some own
  pub at : slice_get own index ≡ Some act
  pub row_is : row ≡ act_row acts session index

-- an act in this row is so
pub record HasActWith (Is : Act → Type 0) (acts : List (List Act)) (row : ℕ) : Type 0 where
  pub act : Act
  pub has : HasAct acts row act
  pub is : Is act

-- the line of this tree stands in this row, at this place from 0
pub record HasLine (acts : List (List Act)) (lines : List (List Line)) (row tree place : ℕ)
    (line : Line) : Type 0 where
  pub at : slice_get (slice_index_or lines tree []) place ≡ Some line
  pub row_is : row ≡ line_row acts lines tree place
