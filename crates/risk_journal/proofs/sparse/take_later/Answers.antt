use Rattle.std.proofs.Common.{◌≡◌, ◌∙◌, ◌++◌, ◌∷◌, ◌-◌, ◌+◌, [], sym, ap, refl, true, arith}
use Rattle.std.proofs.Common.{if◌then◌else◌, length, set}
use Rattle.std.specs.Result.{is_ok}
use Rattle.risk_journal.specs.declared.sparse.TreeLines.{TreeLines}
use Rattle.risk_journal.proofs.SparseSteps.{TakesLater, takes_later, some_tree}
use Rattle.risk_journal.proofs.sparse.take_later.Goals as goal

later : (c : goal.In_ok-map_err)
    → TakesLater c.args.trees.now.items
    (set c.args.trees.now.items (c.len-last.result - 1)
    (record { tree = c.index_mut.result.now.tree; lines = c.push.new.self })) c.args.line
later c =
    let trees = c.args.trees.now in
    let before = c.index_mut.result.now in
    let after : TreeLines = record { tree = before.tree; lines = c.push.new.self } in
    let added : is_ok c.push.result ≡ true =
    sym c.map_err.ensures.variant ∙ ap is_ok c.in_ok-map_err.was in
    let ok = trees.ok in
    let n = c.len-last.result - 1 in
    let count : length trees.items ≡ n + 1 =
    omega (arith, ok, c.len-last.ensures, some_tree trees.items c.requires.some) in
    takes_later trees.items n before after before c.args.line c.requires.rising count
    c.index_mut.ensures.value refl
    (c.push.ensures.items
    ∙ ap (λ is. if is then before.lines.items ++ c.args.line ∷ [] else before.lines.items) added)

pub returns-clause-rising : goal.returns-clause-rising
returns-clause-rising c = (later c).rising

pub returns-clause-taken : goal.returns-clause-taken
returns-clause-taken c = (later c).taken
