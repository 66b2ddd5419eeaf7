-- So many first rows are posted.
use Rattle.limit_desk.proofs.OfficerPosts.{IsPosted}
use Rattle.limit_desk.proofs.officer_run.run_officer.Given as goal

abbrev pub invariant-loop-row : goal.invariant-loop-row
invariant-loop-row g l =
    IsPosted g.M.Hand.SameOrigin g.D.Hand.SameOrigin l.fn.limits l.rows l.row-index l.fn.hands.halt
    l.fn.hands.desk l.told
