use Rattle.std.proofs.Common.{◌≡◌, ◌∙◌, ◌++◌, ◌∷◌, [], sym, ap, arith, true, if◌then◌else◌}
use Rattle.std.specs.Result.{is_ok}
use Rattle.risk_journal.proofs.ReadingSteps.{fill_more}
use Rattle.risk_journal.proofs.sparse.fill_up.Goals as goal

pub loop-preserved : goal.loop-preserved
loop-preserved c =
    let before = c.loop.lists.items in
    let added : is_ok c.push.result ≡ true =
    sym c.map_err.ensures.variant ∙ ap is_ok c.in_ok-map_err.was in
    fill_more (λ own. own.items) c.args.lists.now.items before c.push.new.self.items
    c.new.result c.loop.counter _ c.loop.invariant (omega arith)
    (c.push.ensures.items ∙ ap (λ is. if is then before ++ c.new.result ∷ [] else before) added)
    c.new.ensures.items
