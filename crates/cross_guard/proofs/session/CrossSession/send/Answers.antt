-- It was told and passed on.
use Rattle.cross_guard.proofs.Answered.{sends_by}
use Rattle.cross_guard.proofs.session.CrossSession.send.Goals as goal

pub returns-clause-sends : goal.returns-clause-sends
returns-clause-sends g c =
    rw (← c.self.view_is) (sends_by c.args.text.now _ _ _ _ _ c.tell.ensures.acts
    c.pass_on.ensures.passes)
