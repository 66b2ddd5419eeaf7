-- the lists so far are those of the trees that were given
use Rattle.risk_journal.proofs.SparseSteps.{AreBoth}
use Rattle.risk_journal.proofs.sparse.expand.Given as goal

abbrev pub invariant-loop-own : goal.invariant-loop-own
invariant-loop-own l =
    AreBoth (λ own. own.items) l.lists.items l.own-iterator.rest.items l.fn.trees.items
