-- The reject was applied and passed on.
use Rattle.std.proofs.Common.{◌<◌, length, inl, arith}
use Rattle.cross_guard.specs.Resting.{after_reject, symbol_with}
use Rattle.cross_guard.proofs.Contents.{content_reject}
use Rattle.cross_guard.proofs.SymbolPlaces.{with_id_within}
use Rattle.cross_guard.proofs.Taken.{if_place, settled_taken}
use Rattle.cross_guard.proofs.session.CrossSession.take_cancel_reject.Goals as goal

pub settle-requires-clause-tree : goal.settle-requires-clause-tree
settle-requires-clause-tree g c =
    let over = rw (← c.self.view_is) at c.requires.ready.over in
    let symbols = rw (← c.self.view_is) at c.requires.ready.symbols in
    let limits = c.self.inside.limits.now in
    let id = c.args.reject.now.id in
    if_place c.reject-tree.result (symbol_with id c.self.inside.orders)
    (λ tree. tree < c.self.inside.told.trees) c.reject-tree.ensures.symbol
    (λ own is.
    let inside = with_id_within (length limits.symbols) id c.self.inside.orders own symbols is in
    omega (arith, inside, over.trees_are))

pub returns-clause-taken : goal.returns-clause-taken
returns-clause-taken g c =
    let reject = c.args.reject.now in
    let over = rw (← c.self.view_is) at c.requires.ready.over in
    let acts = rw (c.reject-tree.ensures.symbol, c.reject-tree.ensures.orders) at c.settle.ensures.acts in
    let passes = rw (c.sound_text.ensures, c.reject-tree.ensures.orders) at c.pass_on.ensures.passes in
    rw (← c.self.view_is) (inl (settled_taken c.args.sound.now _ _ _ _ c.settle.new.told reject.id
    (after_reject reject.id) over acts passes
    (λ fields has session. content_reject _ _ session fields reject
    (c.requires.read.each fields has))))
