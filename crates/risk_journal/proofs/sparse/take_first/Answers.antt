use Rattle.std.proofs.Common.{◌≡◌, ◌∙◌, ◌++◌, ◌∷◌, [], sym, ap, subst, true, if◌then◌else◌}
use Rattle.std.specs.Result.{is_ok}
use Rattle.risk_journal.specs.SparseTrees.{expand_from, AreRising}
use Rattle.risk_journal.specs.declared.sparse.TreeLines.{TreeLines}
use Rattle.risk_journal.proofs.SparseSteps.{new_line, new_rises}
use Rattle.risk_journal.proofs.sparse.take_first.Goals as goal

one : (c : goal.In_ok-map_err-2) → c.push.new.self.items ≡ c.args.line ∷ []
one c =
    let added : is_ok c.push.result ≡ true =
    sym c.map_err.ensures.variant ∙ ap is_ok c.in_ok-map_err.was in
    let before = c.new-lines.result.items in
    c.push.ensures.items ∙ ap (λ is. if is then before ++ c.args.line ∷ [] else before) added
    ∙ ap (λ own. own ++ c.args.line ∷ []) c.new-lines.ensures.items

own : (c : goal.In_ok-map_err-2) → TreeLines
own c = record { tree = c.args.tree; lines = c.push.new.self }

more : (c : goal.In_ok-map_err-2)
    → c.push-2.new.self.items ≡ c.args.trees.now.items ++ own c ∷ []
unfolding own
more c =
    let added : is_ok c.push-2.result ≡ true =
    sym c.map_err-2.ensures.variant ∙ ap is_ok c.in_ok-map_err-2.was in
    let before = c.args.trees.now.items in
    c.push-2.ensures.items ∙ ap (λ is. if is then before ++ own c ∷ [] else before) added

pub returns-clause-rising : goal.returns-clause-rising
unfolding own
returns-clause-rising c =
    subst (AreRising 0) (sym (more c))
    (new_rises c.args.trees.now.items (own c) c.args.line c.requires.rising c.requires.behind (one c))

pub returns-clause-taken : goal.returns-clause-taken
unfolding own
returns-clause-taken c =
    ap (expand_from 0) (more c)
    ∙ new_line c.args.trees.now.items (own c) c.args.line c.requires.rising c.requires.behind (one c)
