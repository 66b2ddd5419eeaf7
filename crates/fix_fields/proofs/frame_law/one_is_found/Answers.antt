use Rattle.fix_fields.proofs.FoundLaws.{one_is_found}
use Rattle.fix_fields.proofs.frame_law.one_is_found.Goals as goal

pub returns : goal.returns
returns c = one_is_found
