-- Room for what sessions leave.
use Rattle.std.specs.Prelude.{◌≡◌, ℕ, ◌+◌, ◌≤◌, [], vec_len, vec_capacity}
use Rattle.gate_program.specs.declared.ended.Ended.{Ended}

-- no session has ended yet
pub record HasNone {S K : Type 0} (ended : Ended S K) : Type 0 where
  pub sums : ended.passes.sums.items ≡ []
  pub halts : ended.passes.halts.items ≡ []
  pub acts : ended.acts.items ≡ []
  pub ends : ended.ends.items ≡ []
  pub opened : ended.opened.items ≡ []

-- there is room for so many sessions more
pub record HasSpare {S K : Type 0} (count : ℕ) (ended : Ended S K) : Type 0 where
  pub sums : vec_len ended.passes.sums + count ≤ vec_capacity ended.passes.sums
  pub halts : vec_len ended.passes.halts + count ≤ vec_capacity ended.passes.halts
  pub acts : vec_len ended.acts + count ≤ vec_capacity ended.acts
  pub ends : vec_len ended.ends + count ≤ vec_capacity ended.ends
  pub opened : vec_len ended.opened + count ≤ vec_capacity ended.opened
