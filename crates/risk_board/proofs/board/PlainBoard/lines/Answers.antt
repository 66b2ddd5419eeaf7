use Rattle.std.proofs.Common.{◌<◌, ◌^◌, ℕ, List, length, subst, sym}
use Rattle.std.specs.Prelude.{All}
use Rattle.fold_law.specs.Whole.{whole_of}
use Rattle.risk_board.specs.declared.hand.Line.{Line}
use Rattle.risk_board.specs.History.{array_after, components_of}
use Rattle.risk_board.specs.Plain.{BoardValue, IsLegalTree}
use Rattle.risk_board.proofs.Found.{board_has_tree, tree_tells}
use Rattle.risk_board.proofs.Legal.{plain_is_legal}
use Rattle.risk_board.proofs.TreeCalls.{lines_fit}
use Rattle.risk_board.proofs.board.PlainBoard.lines.Goals as goal

-- a tree that tells the calls has a legal history
pub returns-clause-legal : goal.returns-clause-legal
returns-clause-legal g c =
    let kept = c.self.inside.kept in
    let below = board_has_tree kept c.args.self.now c.args.tree c.self.view_is c.requires.tree in
    let tells = tree_tells kept c.self.invariant c.args.tree c.index.result.now below
    c.index.ensures in
    let whole : List ℕ → ℕ = whole_of g.F.Fold.join g.F.Fold.UNIT in
    let Legal : BoardValue → Type 0 = λ board.
    IsLegalTree whole g.F.Fold.UNIT board c.args.tree c.as_slice.result.now in
    subst Legal c.self.view_is
    (rw c.as_slice.ensures.value (plain_is_legal whole g.F.Fold.UNIT _ _ _ tells.plain))

-- its lines are no more than its posts
pub returns-clause-few : goal.returns-clause-few
returns-clause-few g c =
    let kept = c.self.inside.kept in let sound = c.self.invariant in
    let below = board_has_tree kept c.args.self.now c.args.tree c.self.view_is c.requires.tree in
    let tells = tree_tells kept sound c.args.tree c.index.result.now below c.index.ensures in
    subst (λ (lines : List Line). length lines < 2 ^ 32) (sym c.as_slice.ensures.value)
    (lines_fit tells sound.sessions sound.few)

-- and its leaves are the array behind them
pub returns-clause-leaves : goal.returns-clause-leaves
returns-clause-leaves g c =
    let kept = c.self.inside.kept in
    let below = board_has_tree kept c.args.self.now c.args.tree c.self.view_is c.requires.tree in
    let tells = tree_tells kept c.self.invariant c.args.tree c.index.result.now below
    c.index.ensures in
    let Leaves : BoardValue → Type 0 = λ board. All (g.F.Fold.under 1)
    (array_after g.F.Fold.UNIT (components_of (length board.calls)) c.as_slice.result.now) in
    subst Leaves c.self.view_is
    (rw c.as_slice.ensures.value
    (subst (All (g.F.Fold.under 1)) tells.array tells.leaves))
