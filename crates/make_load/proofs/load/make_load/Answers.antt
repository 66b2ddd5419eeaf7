-- One session more.
use Rattle.std.proofs.Common.{refl, arith}
use Rattle.make_load.proofs.NextSession.{session_more}
use Rattle.make_load.proofs.load.make_load.Goals as goal

pub loop-session-preserved : goal.loop-session-preserved
loop-session-preserved c =
    session_more c.args.number c.args.sessions c.args.orders c.loop-session.session
    c.loop-session.load _ c.in_ok-file.file (omega arith) c.loop-session.invariant (record {
      text = c.in_ok-file.ensures.text;
      new = c.in_ok-file.ensures.new;
      cancel = c.in_ok-file.ensures.cancel;
      report = c.in_ok-file.ensures.report;
      new_few = c.in_ok-file.ensures.new_few;
      cancel_few = c.in_ok-file.ensures.cancel_few;
      report_few = c.in_ok-file.ensures.report_few;
    }) refl c.in-Ok.ensures.items refl refl refl
