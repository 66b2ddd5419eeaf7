-- the board has as many trees and sessions as before
use Rattle.std.proofs.Common.{◌≡◌, length}
use Rattle.tree_tests.proofs.board_tests.plays.Given as goal

abbrev pub invariant-loop-name : goal.invariant-loop-name
invariant-loop-name g l = record {
  trees : length l.hand.board.lines ≡ 2;
  sessions : length l.hand.board.calls ≡ length l.initial.hand.board.calls;
}
