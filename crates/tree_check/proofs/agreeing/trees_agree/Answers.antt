-- The answers are those of the trees.
use Rattle.tree_check.specs.Agreeing.{tree_agrees}
use Rattle.tree_check.proofs.Answered.{all_answers}
use Rattle.tree_check.proofs.agreeing.trees_agree.Goals as goal

pub returns-in-Ok : goal.returns-in-Ok
returns-in-Ok g c =
    all_answers (tree_agrees g.F.Fold.join g.F.Fold.UNIT c.args.sessions) c.args.trees.items
    c.in-Ok.done.items c.all_agree.result c.in-Ok.ensures.ok c.all_agree.ensures
