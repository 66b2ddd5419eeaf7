-- What the sessions of a filter against crossing orders are held to.
use Rattle.std.specs.Prelude.{ℕ}
use Rattle.limit_table.specs.declared.limits.Limits.{Limits}
use Rattle.session_tasks.specs.Rules.{InputRule, EarlyRule}
use Rattle.cross_guard.specs.Follows.{FollowsInput, StopsEarly}

-- each of them follows its input, under these limits
abbrev pub follows : Limits → ℕ → InputRule
follows limits session = FollowsInput limits

-- or what was fetched of it, where a fault ended it
abbrev pub stops : Limits → ℕ → EarlyRule
stops limits session = StopsEarly limits
