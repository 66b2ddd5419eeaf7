-- The sum of leaf values.
use Rattle.std.specs.Prelude.{ℕ, ◌+◌, ◌*◌, ◌≤◌}
use Rattle.fold_law.specs.declared.limits.TheConstants.{LEAF}

abbrev pub sum_of : ℕ → ℕ → ℕ
sum_of a b = a + b

-- at most so many times the largest leaf value
abbrev pub IsSumOf : ℕ → ℕ → Type 0
IsSumOf m x = x ≤ m * LEAF
