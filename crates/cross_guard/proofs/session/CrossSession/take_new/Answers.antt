-- The order was kept, asked about, and sent or taken back.
use Rattle.std.proofs.Common.{sym, ◌∙◌, inl}
use Rattle.cross_guard.specs.Resting.{after_new}
use Rattle.cross_guard.specs.Session.{order_refusal}
use Rattle.cross_guard.proofs.Contents.{content_new_unknown, new_is}
use Rattle.cross_guard.proofs.Oks.{ok_of}
use Rattle.cross_guard.proofs.Taken.{quiet_taken, refused_taken, sent_taken, some_row}
use Rattle.cross_guard.proofs.session.CrossSession.take_new.Goals as goal

pub returns-in_default-clause-taken : goal.returns-in_default-clause-taken
returns-in_default-clause-taken g c =
    let order = c.args.order.now in
    let passes = rw (c.sound_text-text.ensures, ← c.self.view_is) at c.pass_on.ensures.passes in
    rw (← c.self.view_is) (inl (quiet_taken c.args.sound.now _ _ _ _ (λ o. o) passes
    (λ fields has session. content_new_unknown _ _ session fields order
    (c.requires.read.each fields has) (sym c.in_default.ensures.place))))

pub returns-in-Sent-clause-taken : goal.returns-in-Sent-clause-taken
returns-in-Sent-clause-taken g c =
    let order = c.args.order.now in
    let limits = c.self.inside.limits.now in
    let tree = c.in-Some.tree in
    let value = c.value_at-value.result in
    let ok = ok_of c.add.result c.add.ensures.ok
    (sym c.is_err.ensures.value ∙ c.if-is_err.false) in
    let sends = rw (c.sound_text-text.ensures, ok) at c.send.ensures.sends in
    let over = rw (← c.self.view_is) at c.requires.ready.over in
    rw (← c.self.view_is) (inl (sent_taken c.args.sound.now _ _ _ _ c.ask.new.self order_refusal
    tree value (after_new tree order value) c.ask.result over c.ask.ensures.asked
    (λ fields has s. new_is limits _ s fields order tree value (c.requires.read.each fields has)
    (sym c.in-Some.ensures.place) (some_row limits.symbols tree c.in-Some.ensures.tree)
    c.value_at-value.ensures.value s)
    c.in-Sent.is sends))

pub returns-in_default-ask-clause-taken : goal.returns-in_default-ask-clause-taken
returns-in_default-ask-clause-taken g c =
    let order = c.args.order.now in
    let limits = c.self.inside.limits.now in
    let tree = c.in-Some.tree in
    let value = c.value_at-value.result in
    let ok = ok_of c.add.result c.add.ensures.ok
    (sym c.is_err.ensures.value ∙ c.if-is_err.false) in
    let back = c.take_back.ensures c.self.inside.orders (_, ok) in
    let refuses = rw back at c.refuse_order.ensures.refuses in
    let over = rw (← c.self.view_is) at c.requires.ready.over in
    rw (← c.self.view_is) (inl (refused_taken c.args.sound.now _ _ _ _ c.ask.new.self order_refusal
    tree value (after_new tree order value) c.ask.result over c.ask.ensures.asked
    (λ fields has s. new_is limits _ s fields order tree value (c.requires.read.each fields has)
    (sym c.in-Some.ensures.place) (some_row limits.symbols tree c.in-Some.ensures.tree)
    c.value_at-value.ensures.value s)
    c.in_default-ask.not-Sent refuses))
