-- Whatever a session does adds to its acts, and no end among them.
use Rattle.std.proofs.Common.{List}
use Rattle.fix_fields.specs.Frames.{FrameValue}
use Rattle.session_engine.specs.Session.{LimitsValue, SessionValue, after_frames}
pub use Rattle.session_engine.proofs.AddedActs.{AreNoEnds, Grows}
use Rattle.session_engine.proofs.MovedSessions.{frames_move}

pub frames_grow : (limits : LimitsValue) (frames : List FrameValue) (session : SessionValue)
    → Grows session.acts (after_frames limits session frames).acts
frames_grow limits frames session = (frames_move limits frames session).grows
