use Rattle.fix_fields.proofs.FrameLaws.{one_frame_at}
use Rattle.fix_fields.proofs.frame_law.one_frame_stands_there.Goals as goal

pub returns : goal.returns
returns c = λ bytes from f a b g i j h k.
    let same = one_frame_at bytes from f a b g i j h k in (same.frame, same.body_from, same.body_to)
