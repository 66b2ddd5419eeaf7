-- Sessions over the same frames with other reads go alike, or their acts part at a read.
use Rattle.std.proofs.Common.{List}
use Rattle.fix_fields.specs.Frames.{FrameValue}
use Rattle.risk_journal.specs.ActLists.{SeenAt}
use Rattle.session_engine.specs.Parting.{AreAlikeOrPart}
use Rattle.session_engine.specs.Reaches.{with_reads}
use Rattle.session_engine.specs.Session.{LimitsValue, SessionValue, after_frames}
use Rattle.session_engine.proofs.MovedSessions.{frames_step}

pub frames_part : (limits : LimitsValue) (frames : List FrameValue) (session : SessionValue)
    (others : List SeenAt) → AreAlikeOrPart (after_frames limits session frames)
    (after_frames limits (with_reads others session) frames)
frames_part limits frames session others = (frames_step limits frames session).parts others
