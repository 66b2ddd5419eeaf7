-- the hand keeps its bounds
use Rattle.risk_board.specs.Hands.{KeepsOrigin}
use Rattle.tree_tests.proofs.board_tests.posts_and_reads.Given as goal

abbrev pub invariant-loop : goal.invariant-loop
invariant-loop g l = KeepsOrigin (g.H.Hand.meaning l.initial.hand) (g.H.Hand.meaning l.hand)
