-- The plain array at a place of a history.
use Rattle.std.specs.Prelude.{◌≡◌, ℕ, ◌<◌, ◌≤◌, List, length, take, fold, slice_set}
use Rattle.std.specs.List.{AllByRecursion}
use Rattle.fold_law.specs.declared.limits.TheConstants.{SESSIONS}
use Rattle.fold_law.specs.Whole.{whole_of}
use Rattle.risk_board.specs.declared.hand.Line.{Line}
use Rattle.risk_board.specs.History.{array_after}

-- each line is of a session that has a component, and of a value that a leaf may have
abbrev pub AreLines : ℕ → List Line → Type 0
AreLines cap lines = AllByRecursion (λ line. (line.session < SESSIONS) × (line.value ≤ cap)) lines

-- the array after these lines, from this one on
abbrev pub after_lines : List ℕ → List Line → List ℕ
after_lines array lines =
    fold (λ array line. slice_set array line.session line.value) array lines

-- the whole of the array of the most components, after so many lines
abbrev pub whole_at : (ℕ → ℕ → ℕ) → ℕ → List Line → ℕ → ℕ
whole_at join unit lines place =
    whole_of join unit (array_after unit SESSIONS (take place lines))

-- the value is the whole of the array at this place, of however many components, if each session of
-- the lines has one
abbrev pub IsWholeAt : (ℕ → ℕ → ℕ) → ℕ → List Line → ℕ → ℕ → Type 0
IsWholeAt join unit lines place value =
    (components : ℕ) → components ≤ SESSIONS
    → AllByRecursion (λ line. line.session < components) lines
    → value ≡ whole_of join unit (array_after unit components (take place lines))

-- a walk: the lines that it goes along, and the place to which it has come
pub record WalkValue : Type 0 where
  pub lines : List Line
  pub place : ℕ

-- the components at the place are those of the array there, and the lines can be walked
pub record IsWalk (unit cap : ℕ) (lines : List Line) (place : ℕ) (leaves : List ℕ) : Type 0 where
  pub within : place ≤ length lines
  pub array : leaves ≡ array_after unit SESSIONS (take place lines)
  pub are : AreLines cap lines
