use Rattle.std.proofs.Common.{refl}
use Rattle.fold_law.specs.Whole.{whole_of}
use Rattle.risk_board.proofs.Opened.{lines_of_none, sound_of_none}
use Rattle.risk_board.proofs.board.PlainBoard.open.Goals as goal

-- a board before any call is sound, since the unit is the join of no leaf
pub invariant_of-result : goal.invariant_of-result
invariant_of-result g c =
    rw (c.in_ok-open_trees.ensures, c.in_ok-open_calls.ensures, c.UNIT.ensures)
    (sound_of_none (whole_of g.F.Fold.join g.F.Fold.UNIT) g.F.Fold.UNIT (g.F.Fold.under 1)
    c.args.quota c.args.sessions (g.met.F.Fold.laws.unit_under 1)
    c.args.trees c.requires.sessions.1 c.requires.quota.1)

pub returns : goal.returns
returns g c =
    rw (lines_of_none _ _ _ _ _ c.in_ok-open_trees.ensures, c.in_ok-open_calls.ensures) refl
