-- The report was applied and passed on.
use Rattle.std.proofs.Common.{◌<◌, length, inl, arith}
use Rattle.std.specs.Prelude.{Some}
use Rattle.cross_guard.specs.Resting.{after_report, symbol_with}
use Rattle.cross_guard.proofs.Contents.{content_report, content_report_none}
use Rattle.cross_guard.proofs.SymbolPlaces.{with_id_within}
use Rattle.cross_guard.proofs.Taken.{if_place, quiet_taken, settled_taken}
use Rattle.cross_guard.proofs.session.CrossSession.take_report.Goals as goal

pub settle-requires-clause-tree : goal.settle-requires-clause-tree
settle-requires-clause-tree g c =
    let over = rw (← c.self.view_is) at c.requires.ready.over in
    let symbols = rw (← c.self.view_is) at c.requires.ready.symbols in
    let limits = c.self.inside.limits.now in
    if_place c.report-tree.result (symbol_with c.in-Some.id c.self.inside.orders)
    (λ tree. tree < c.self.inside.told.trees) c.report-tree.ensures.symbol
    (λ own is.
    let inside = with_id_within (length limits.symbols) c.in-Some.id c.self.inside.orders own
    symbols is in
    omega (arith, inside, over.trees_are))

pub returns-in_default-clause-taken : goal.returns-in_default-clause-taken
returns-in_default-clause-taken g c =
    let report = c.args.report.now in
    let passes = rw c.sound_text-text.ensures at c.pass_on.ensures.passes in
    inl (quiet_taken c.args.sound.now _ _ _ _ (λ o. o) passes
    (λ fields has session. content_report_none _ _ session fields report
    (c.requires.read.each fields has) c.in_default.is))

pub returns-clause-taken : goal.returns-clause-taken
returns-clause-taken g c =
    let report = c.args.report.now in
    let id = c.in-Some.id in
    let over = rw (← c.self.view_is) at c.requires.ready.over in
    let acts = rw (c.report-tree.ensures.symbol, c.report-tree.ensures.orders) at c.settle.ensures.acts in
    let passes = rw (c.sound_text-text.ensures, c.report-tree.ensures.orders) at c.pass_on-2.ensures.passes in
    rw (← c.self.view_is) (inl (settled_taken c.args.sound.now _ _ _ _ c.settle.new.told id
    (after_report (Some id) report.exec) over acts passes
    (λ fields has session. content_report _ _ session fields report id
    (c.requires.read.each fields has) c.in-Some.is)))
