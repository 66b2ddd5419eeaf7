use Rattle.fix_fields.proofs.FoundLaws.{found_stays}
use Rattle.fix_fields.proofs.frame_law.found_stays.Goals as goal

pub returns : goal.returns
returns c = found_stays
