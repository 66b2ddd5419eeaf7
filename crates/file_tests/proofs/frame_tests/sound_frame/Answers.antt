use Rattle.fix_fields.proofs.FrameLaws.{found_sound}
use Rattle.file_tests.proofs.frame_tests.sound_frame.Goals as goal

-- a frame that is told to be sound has fields
pub returns-in-Frame : goal.returns-in-Frame
returns-in-Frame c = found_sound c.args.bytes.now 0 c.in-Frame.frame c.in-Frame.ensures
    c.if-frame.true
