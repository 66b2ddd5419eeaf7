-- The cancel was passed on, and the order has its id.
use Rattle.std.proofs.Common.{sym, ◌∙◌, inl}
use Rattle.cross_guard.specs.Resting.{after_cancel}
use Rattle.cross_guard.proofs.Contents.{content_cancel}
use Rattle.cross_guard.proofs.Oks.{ok_of}
use Rattle.cross_guard.proofs.Taken.{quiet_taken}
use Rattle.cross_guard.proofs.session.CrossSession.take_cancel.Goals as goal

pub returns-clause-taken : goal.returns-clause-taken
returns-clause-taken g c =
    let cancel = c.args.cancel.now in
    let ok = ok_of c.cancel.result c.cancel.ensures.ok
    (sym c.is_err.ensures.value ∙ c.if-is_err.false) in
    let passes = rw (c.sound_text.ensures, ok) at c.pass_on.ensures.passes in
    rw (← c.self.view_is) (inl (quiet_taken c.args.sound.now _ _ _ _ (after_cancel cancel) passes
    (λ fields has session. content_cancel _ _ session fields cancel
    (c.requires.read.each fields has))))
