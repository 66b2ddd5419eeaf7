use Rattle.fix_fields.proofs.FoundLaws.{ends_in_frame}
use Rattle.fix_fields.proofs.frame_law.bytes_in_a_frame_are_cut.Goals as goal

pub returns : goal.returns
returns c = ends_in_frame
