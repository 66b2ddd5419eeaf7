use Rattle.limit_table.proofs.FileLimits.{held_is_file_limits, file_limits_are_held}
use Rattle.limit_table.proofs.limit_law.held_limits_stand.Goals as goal

pub returns : goal.returns
returns c = λ limits. (held_is_file_limits limits, file_limits_are_held limits)
