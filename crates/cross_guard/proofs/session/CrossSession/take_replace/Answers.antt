-- The replace was kept, asked about, and sent or taken back.
use Rattle.std.proofs.Common.{sym, inl, arith}
use Rattle.cross_guard.specs.Resting.{after_replace}
use Rattle.cross_guard.specs.Session.{replace_refusal}
use Rattle.cross_guard.proofs.Contents.{content_change_unknown, change_is}
use Rattle.cross_guard.proofs.Continued.{continues_answered}
use Rattle.cross_guard.proofs.Taken.{quiet_taken, refused_taken, sent_taken, some_row}
use Rattle.cross_guard.proofs.session.CrossSession.take_replace.Goals as goal

pub returns-in_default-clause-taken : goal.returns-in_default-clause-taken
returns-in_default-clause-taken g c =
    let replace = c.args.replace.now in
    let passes = rw (c.sound_text-text.ensures, ← c.self.view_is) at c.pass_on.ensures.passes in
    rw (← c.self.view_is) (inl (quiet_taken c.args.sound.now _ _ _ _ (λ o. o) passes
    (λ fields has session. content_change_unknown _ _ session fields replace
    (c.requires.read.each fields has) (sym c.in_default.ensures.place))))

pub returns-in-Sent-clause-continues : goal.returns-in-Sent-clause-continues
returns-in-Sent-clause-continues g c =
    rw (← c.self.view_is) (continues_answered g.H.Hand.SameOrigin g.met.H.Hand.origin_next _ c.ask.new.self
    c.replace.new.self c.send.new.self 3 1 4 c.ask.ensures.after c.send.ensures.continues (omega arith))

pub returns-in-Sent-clause-taken : goal.returns-in-Sent-clause-taken
returns-in-Sent-clause-taken g c =
    let replace = c.args.replace.now in
    let limits = c.self.inside.limits.now in
    let tree = c.in-Some.tree in
    let value = c.value_at-value.result in
    let sends = rw (c.sound_text-text.ensures, c.in-Ok.ensures.ok) at c.send.ensures.sends in
    let over = rw (← c.self.view_is) at c.requires.ready.over in
    rw (← c.self.view_is) (inl (sent_taken c.args.sound.now _ _ _ _ c.ask.new.self replace_refusal
    tree value (after_replace tree replace value) c.ask.result over c.ask.ensures.asked
    (λ fields has s. change_is limits _ s fields replace tree value (c.requires.read.each fields has)
    (sym c.in-Some.ensures.place) (some_row limits.symbols tree c.in-Some.ensures.tree)
    c.value_at-value.ensures.value s)
    c.in-Sent.is sends))

pub returns-in_default-ask-clause-taken : goal.returns-in_default-ask-clause-taken
returns-in_default-ask-clause-taken g c =
    let replace = c.args.replace.now in
    let limits = c.self.inside.limits.now in
    let tree = c.in-Some.tree in
    let value = c.value_at-value.result in
    let back = c.take_back.ensures c.self.inside.orders c.in-Ok.ensures.added in
    let refuses = rw back at c.refuse_replace.ensures.refuses in
    let over = rw (← c.self.view_is) at c.requires.ready.over in
    rw (← c.self.view_is) (inl (refused_taken c.args.sound.now _ _ _ _ c.ask.new.self replace_refusal
    tree value (after_replace tree replace value) c.ask.result over c.ask.ensures.asked
    (λ fields has s. change_is limits _ s fields replace tree value (c.requires.read.each fields has)
    (sym c.in-Some.ensures.place) (some_row limits.symbols tree c.in-Some.ensures.tree)
    c.value_at-value.ensures.value s)
    c.in_default-ask.not-Sent refuses))
