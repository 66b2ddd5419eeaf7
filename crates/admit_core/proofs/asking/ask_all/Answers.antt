-- The trees were asked as the admission's acts tell.
use Rattle.admit_core.proofs.Asked.{admitted_asks}
use Rattle.admit_core.proofs.asking.ask_all.Goals as goal

pub returns-clause-asks : goal.returns-clause-asks
returns-clause-asks g c =
    rw (c.admit.ensures.acts, c.requires.over.halt_tree_is, ← c.ask_for.ensures.asked)
    (admitted_asks c.args.limits.now c.ask_for.result c.admit.result c.args.hands.now.acts
    (rw c.requires.over.quota_is at c.admit.ensures.quota) c.admit.ensures.verdict)
