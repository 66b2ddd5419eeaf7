-- The lines are the journal's, of as many sessions as have acts.
use Rattle.std.proofs.Common.{◌≡◌, ℕ, List, length, map, arith, sym, subst, Vec, Global}
use Rattle.risk_board.specs.declared.hand.Line.{Line}
use Rattle.gate_program.specs.Totals.{HaveTotals}
use Rattle.gate_program.proofs.totals.totals_text.Goals as goal

pub tree_totals-requires-clause-lines : goal.tree_totals-requires-clause-lines
tree_totals-requires-clause-lines g c =
    let acts = c.args.journal.now.acts in
    let shown = c.deref-2.result.now in
    let many : c.len.result ≡ length acts.items = omega (arith, c.len.ensures, acts.ok.0) in
    subst (λ (n : ℕ). HaveTotals n (map (λ (own : Vec Line Global). own.items) shown))
    (sym many)
    (subst (λ (lines : List (Vec Line Global)). HaveTotals (length acts.items)
    (map (λ own. own.items) lines)) (sym c.deref-2.ensures.value) c.requires.lines)
