-- The places of the words of trees.
use Rattle.std.specs.Prelude.{ℕ, ◌+◌, ◌*◌, ◌^◌, ◌≤◌}
use Rattle.stamp_word.specs.declared.limits.TheConstants.{LEVELS, TREES}

-- the levels and the number of trees are within the limits
abbrev pub IsShape : ℕ → ℕ → Type 0
IsShape levels trees = (levels ≤ LEVELS) × (1 ≤ trees) × (trees ≤ TREES)

-- the least number of levels with a leaf for each session
pub record IsLeast (sessions levels : ℕ) : Type 0 where
  pub enough : sessions ≤ 2 ^ levels
  pub least : (fewer : ℕ) → sessions ≤ 2 ^ fewer → levels ≤ fewer

-- tree t has the words from t * 2 ^ (levels + 1), a word for each of its nodes
abbrev pub place_of : ℕ → ℕ → ℕ → ℕ
place_of levels tree node = tree * (2 * 2 ^ levels) + node

-- the leaf of a session
abbrev pub leaf_of : ℕ → ℕ → ℕ
leaf_of levels session = 2 ^ levels + session
