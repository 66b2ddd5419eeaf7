-- One frame more leads one step on.
use Rattle.std.proofs.Common.{◌≡◌, List, [], ◌∷◌, ◌++◌, refl}
use Rattle.fix_fields.specs.Frames.{FrameValue}
use Rattle.session_engine.specs.Session.{LimitsValue, SessionValue, after_frame, after_frames}

pub after_frames-snoc : (limits : LimitsValue) (session : SessionValue) (frames : List FrameValue)
    (frame : FrameValue)
    → after_frames limits session (frames ++ frame ∷ []) ≡ after_frame limits frame.fields
    (after_frames limits session frames)
after_frames-snoc limits session [] frame = refl
after_frames-snoc limits session (x ∷ frames) frame =
    after_frames-snoc limits (after_frame limits x.fields session) frames frame
