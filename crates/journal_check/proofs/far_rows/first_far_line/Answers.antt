-- the lines of one tree more
use Rattle.std.proofs.Common.{◌≡◌, ◌∙◌, ◌<◌, ◌+◌, ◌∷◌, sym, ap, subst, length, drop, arith}
use Rattle.std.proofs.lemmas.List.{drop_more}
use Rattle.risk_journal.specs.SparseTrees.{expand_from}
use Rattle.journal_check.proofs.FarTrees.{ReadTo, read_more, far_found}
use Rattle.journal_check.proofs.Kept.{kept}
use Rattle.journal_check.proofs.far_rows.first_far_line.Goals as goal

pub returns-then-index-last-clause-found : goal.returns-then-index-last-clause-found
returns-then-index-last-clause-found c =
    let trees = c.args.told.now.trees.items in
    let acts = kept c.args.told.now.acts.items in
    let own = c.index.result.now in
    let later = drop (c.loop-index.index + 1) trees in
    let ok = c.args.told.now.trees.ok in
    let rest = drop_more trees c.loop-index.index own
    (omega (arith, ok, c.loop-index-test.true, c.len-index-end.ensures))
    ∙ ap (λ first. first ∷ later) (sym c.index.ensures) in
    far_found c.args.last acts (expand_from 0 trees) own later c.loop-index.row
    (subst (λ trees_left. ReadTo c.args.last acts (expand_from 0 trees) trees_left c.loop-index.row)
    rest c.loop-index.invariant) c.if-index-last.true

pub loop-index-preserved : goal.loop-index-preserved
loop-index-preserved c =
    let trees = c.args.told.now.trees.items in
    let acts = kept c.args.told.now.acts.items in
    let tried = c.index.result.now in
    let own = c.index-in-loop-index.result.now in
    let later = drop (c.loop-index.index + 1) trees in
    let ok = c.args.told.now.trees.ok in
    let less : c.loop-index.index < length trees =
    omega (arith, ok, c.loop-index-test.true, c.len-index-end.ensures) in
    let first = drop_more trees c.loop-index.index tried less
    ∙ ap (λ one. one ∷ later) (sym c.index.ensures) in
    let rest = drop_more trees c.loop-index.index own less
    ∙ ap (λ one. one ∷ later) (sym c.index-in-loop-index.ensures) in
    let same : tried ≡ own = cc (sym first ∙ rest) in
    let long = own.lines.ok in
    read_more c.args.last acts (expand_from 0 trees) own later c.loop-index.row
    (subst (λ trees_left. ReadTo c.args.last acts (expand_from 0 trees) trees_left c.loop-index.row)
    rest c.loop-index.invariant)
    (c.loop-index.row + c.len.result)
    (omega (arith, c.if-index-last.false, ap (λ one. one.tree) same))
    (omega (arith, long, c.len.ensures))
