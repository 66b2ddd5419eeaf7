use Rattle.fix_fields.proofs.FrameLaws.{frame_within}
use Rattle.fix_fields.proofs.frame_law.frame_is_within.Goals as goal

pub returns : goal.returns
returns c = λ bytes from frame a b at.
    let within = frame_within bytes from frame a b at in (within.after, within.some, within.inside)
