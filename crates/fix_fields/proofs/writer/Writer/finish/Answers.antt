use Rattle.std.proofs.Common.{arith, refl}
use Rattle.fix_fields.proofs.Finishing.{finished, IsFinished}
use Rattle.fix_fields.proofs.writer.Writer.finish.Goals as goal

-- what is handed out is the message of the body
pub returns : goal.returns
returns c =
    let w = c.self.inside in
    let head = c.write_head-start in
    let trailer = c.write_trailer-end in
    let start = head.result in
    let later = trailer.result in
    let parts : IsFinished start w.end later w.bytes head.new.into trailer.new.into = record {
      before = head.ensures.start;
      head = head.ensures.written;
      low = omega arith;
      high = omega arith;
      kept = omega arith;
      after = omega arith;
      trailer = trailer.ensures.written;
    } in
    finished w.begun start w.end later w.bytes head.new.into trailer.new.into _ _
    c.self.view_is parts refl
