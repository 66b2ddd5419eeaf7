-- the trees so far have room, and all hold what they held and have the room that they had
use Rattle.std.proofs.Common.{◌≡◌, ℕ, map, take}
use Rattle.risk_board.specs.Tree.{contents}
use Rattle.risk_board.specs.Kept.{HaveRoom}
use Rattle.risk_board.proofs.kept.reserve_lines.Given as goal

abbrev pub invariant-loop-tree : goal.invariant-loop-tree
invariant-loop-tree l = record {
  taken : HaveRoom l.lines (take l.tree-index l.tree-items);
  contents : map contents l.tree-items ≡ map contents l.initial.tree-items;
  room : (spare : ℕ) → HaveRoom spare l.initial.tree-items → HaveRoom spare l.tree-items;
}
