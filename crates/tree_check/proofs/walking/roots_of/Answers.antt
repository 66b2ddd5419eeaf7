-- One root more.
use Rattle.std.proofs.Common.{◌∙◌, arith}
use Rattle.tree_check.proofs.WalkedReads.{next_root}
use Rattle.tree_check.proofs.walking.roots_of.Goals as goal

pub loop-place-preserved : goal.loop-place-preserved
loop-place-preserved g c = (
  c.in-Ok.ensures.items
      ∙ next_root g.F.Fold.join g.F.Fold.UNIT c.args.history.now.lines.items
      c.loop-place.walk.lines c.loop-place.roots.items c.loop-place.place c.to.result
      c.loop-place.invariant.0 c.loop-place.invariant.1 c.to.ensures.value,
  c.to.ensures.lines ∙ c.loop-place.invariant.1,
  omega (arith, c.to.ensures.place),
)
