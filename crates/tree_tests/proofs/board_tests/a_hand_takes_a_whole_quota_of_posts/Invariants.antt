-- the board has a tree
use Rattle.std.proofs.Common.{◌<◌, length}
use Rattle.tree_tests.proofs.board_tests.a_hand_takes_a_whole_quota_of_posts.Given as goal

abbrev pub invariant-loop : goal.invariant-loop
invariant-loop g l = 0 < length l.hand.board.lines
