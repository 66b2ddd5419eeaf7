use Rattle.fix_fields.proofs.FrameLaws.{frame_stays}
use Rattle.fix_fields.proofs.frame_law.frame_stays.Goals as goal

pub returns : goal.returns
returns c = frame_stays
