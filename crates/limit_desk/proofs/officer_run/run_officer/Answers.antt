-- A row more is posted.
use Rattle.std.proofs.Common.{arith, ap}
use Rattle.std.specs.Prelude.{length}
use Rattle.limit_desk.proofs.OfficerPosts.{few_acts, posted_next}
use Rattle.limit_desk.proofs.officer_run.run_officer.Goals as goal

pub post-requires-clause-left : goal.post-requires-clause-left
post-requires-clause-left g c = omega (
  arith,
  ap length c.reserve.ensures.acts,
  few_acts _ _ _ _ _ _ _ _ c.loop-row.invariant c.loop-row-test.true,
  c.loop-row-test.true,
  c.requires.rows.few,
)

pub loop-row-preserved : goal.loop-row-preserved
loop-row-preserved g c =
    posted_next _ _ _ _ _ _ _ _ c.loop-row.invariant c.loop-row-test.true g.met.M.Hand.origin_next
    g.met.D.Hand.origin_next c.reserve.new.self _ _ c.reserve.ensures.after c.reserve.ensures.acts
    c.post.ensures.after c.post.ensures.acts
