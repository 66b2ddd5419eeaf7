use Rattle.fix_fields.proofs.FoundLaws.{cut_is_short}
use Rattle.fix_fields.proofs.frame_law.cut_is_short.Goals as goal

pub returns : goal.returns
returns c = cut_is_short
