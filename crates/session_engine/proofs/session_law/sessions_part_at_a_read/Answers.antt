-- Over other reads a session goes alike, or its acts part at a read.
use Rattle.session_engine.specs.Session.{opening}
use Rattle.session_engine.proofs.PartedSessions.{frames_part}
use Rattle.session_engine.proofs.session_law.sessions_part_at_a_read.Goals as goal

pub returns : goal.returns
returns c = λ limits screens reads others frames.
    frames_part limits frames (opening limits screens reads) others
