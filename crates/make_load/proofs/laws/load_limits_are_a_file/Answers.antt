use Rattle.make_load.proofs.LimitRows.{limits_are_set}
use Rattle.make_load.proofs.laws.load_limits_are_a_file.Goals as goal

pub returns : goal.returns
returns c = limits_are_set
