-- The posts of a file that is read can be made.
use Rattle.limit_desk.proofs.OfficerSound.{if_sound}
use Rattle.limit_desk.proofs.officer.read_officer.Goals as goal

pub returns-clause-sound : goal.returns-clause-sound
returns-clause-sound c =
    if_sound c.args.limits.now c.args.bytes.now c.read_rows.result c.read_rows.ensures.read
