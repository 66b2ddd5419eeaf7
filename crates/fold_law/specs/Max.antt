-- The largest of leaf values.
use Rattle.std.specs.Prelude.{ℕ, ◌≤◌}
use Rattle.fold_law.specs.declared.limits.TheConstants.{LEAF}

-- at most the largest leaf value, of however many leaves
abbrev pub IsMaxOf : ℕ → ℕ → Type 0
IsMaxOf m x = x ≤ LEAF
