-- What an officer posts.
use Rattle.std.specs.Prelude.{◌≡◌, ℕ, ◌≤◌, ◌<◌, List, [], ◌∷◌, ◌++◌, ◌⊎◌, length, fold, take, All}
use Rattle.limit_table.specs.Trees.{LimitsValue, halt_tree}
use Rattle.risk_journal.specs.declared.acts.Act.{Act}
use Rattle.risk_journal.specs.declared.acts.Act.TheVariants.{Ended}
use Rattle.risk_journal.specs.declared.acts.End.{End}
use Rattle.risk_journal.specs.declared.acts.End.TheVariants.{Memory}
use Rattle.admit_core.specs.Tapes.{with_post}
use Rattle.limit_desk.specs.declared.least.TheConstants.{OPEN}
use Rattle.limit_desk.specs.declared.officer.OfficerRow.{OfficerRow}
use Rattle.limit_desk.specs.declared.officer.OfficerTree.{OfficerTree}
use Rattle.limit_desk.specs.declared.officer.OfficerTree.TheVariants.{Limit, Halt}
use Rattle.limit_desk.specs.Officers.{rows_most}
use Rattle.limit_desk.specs.Trees.{limit_tree}

-- the number of a row's tree, where the halt tree has this number
abbrev pub tree_number : ℕ → OfficerTree → ℕ
tree_number halt_tree (Limit tree) = limit_tree halt_tree tree
tree_number halt_tree Halt = halt_tree

-- acts, and then the post of a row
abbrev pub with_row : ℕ → List Act → OfficerRow → List Act
with_row halt_tree acts row = with_post (tree_number halt_tree row.tree) row.value acts

-- the posts of rows, in order
abbrev pub posts_of : ℕ → List OfficerRow → List Act
posts_of halt_tree rows = fold (with_row halt_tree) [] rows

-- the acts of an officer that posted these rows and ended so
abbrev pub officer_acts : LimitsValue → List OfficerRow → End → List Act
officer_acts limits rows end = posts_of (halt_tree limits) rows ++ Ended end ∷ []

-- a value can be posted in a row's tree, where there are so many trees of sums: a limit up to that of no
-- limit, or a level of the halt
abbrev pub CanPost : ℕ → OfficerTree → ℕ → Type 0
CanPost count (Limit tree) value = (tree < count) × (value ≤ OPEN)
CanPost count Halt value = value ≤ 1

-- rows that an officer can post, and as many as there may be at most
pub record AreOfficerRows (limits : LimitsValue) (rows : List OfficerRow) : Type 0 where
  pub each : All (λ row. CanPost (halt_tree limits) row.tree row.value) rows
  pub few : length rows ≤ rows_most

-- Memory was wanting before the post of a row: the rows before it are posted, or no act is told.
abbrev pub IsCutShort : LimitsValue → List OfficerRow → List Act → Type 0
IsCutShort limits rows acts =
    (acts ≡ [])
    ⊎ ((count : ℕ) × (count < length rows) × (acts ≡ officer_acts limits (take count rows) Memory))
