-- The limits with which a run counts, by how many sessions it has.
use Rattle.std.specs.Prelude.{ℕ, nat_lt, min, if◌then◌else◌}
use Rattle.limit_table.specs.declared.counted.TheConstants.{FEW_SESSIONS, QUOTA_OF_MANY}
use Rattle.limit_table.specs.declared.limits.Limits.{Limits}

-- The quota that counts where so many sessions run with this one: with more than a few, at most that of
-- many.
abbrev pub counted_quota : ℕ → ℕ → ℕ
counted_quota sessions quota =
    if nat_lt FEW_SESSIONS sessions then min quota QUOTA_OF_MANY else quota

-- the limits with which so many sessions run
abbrev pub counted_for : ℕ → Limits → Limits
counted_for sessions limits = record limits { quota = counted_quota sessions limits.quota }
