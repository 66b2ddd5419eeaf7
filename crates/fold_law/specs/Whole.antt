-- The join of a list.
use Rattle.std.specs.Prelude.{ℕ, List, fold}

-- the join from the left, starting at the unit
abbrev pub whole_of : (ℕ → ℕ → ℕ) → ℕ → List ℕ → ℕ
whole_of join unit leaves = fold join unit leaves
