use Rattle.limit_table.proofs.OneAnswer.{one_limits, one_fault, not_both}
use Rattle.limit_table.proofs.limit_law.one_answer_stands.Goals as goal

pub returns : goal.returns
returns c = record { limits = one_limits; fault = one_fault; either = not_both }
