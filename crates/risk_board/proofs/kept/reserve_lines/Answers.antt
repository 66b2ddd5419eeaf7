use Rattle.std.proofs.Common.{◌<◌, length, map, ap, ◌∙◌, arith, slice_set, length-set}
use Rattle.std.proofs.lemmas.List.{take_all}
use Rattle.risk_board.specs.Tree.{contents}
use Rattle.risk_board.proofs.Room.{refilled, contents_stay, room_stays, more_have_room}
use Rattle.risk_board.proofs.kept.reserve_lines.Goals as goal

-- the trees hold what they held, whether one more took room or not
pub loop-tree-preserved : goal.loop-tree-preserved
loop-tree-preserved c =
    let trees = c.loop-tree.tree-items in let index = c.loop-tree.tree-index in
    let below : index < length trees = omega arith in
    let old = c.tree-item.result in let new = c.reserve.new.self in
    let before = c.loop-tree.invariant in
    record {
      taken = more_have_room trees index old new below c.args.lines
          c.in_ok-reserve.ensures.ok before.taken;
      contents = contents_stay trees index old new below c.reserve.ensures.contents
          ∙ before.contents;
      room = λ spare room. room_stays trees index old new below
          c.reserve.ensures.taken c.reserve.ensures.room spare (before.room spare room);
    }

pub returns-in_err-reserve-clause-contents : goal.returns-in_err-reserve-clause-contents
returns-in_err-reserve-clause-contents c =
    let trees = c.loop-tree.tree-items in let index = c.loop-tree.tree-index in
    let below : index < length trees = omega arith in
    let new = c.reserve.new.self in
    rw (refilled c.args.trees.now.len (slice_set trees index new) c.args.trees.now.items
    (omega (arith, length-set trees index new)))
    (contents_stay trees index c.tree-item.result new below
    c.reserve.ensures.contents
    ∙ c.loop-tree.invariant.contents
    ∙ ap (map contents) c.deref_mut-tree-items.ensures.value)

pub returns-in_err-reserve-clause-room : goal.returns-in_err-reserve-clause-room
returns-in_err-reserve-clause-room c =
    let trees = c.loop-tree.tree-items in let index = c.loop-tree.tree-index in
    let below : index < length trees = omega arith in
    let new = c.reserve.new.self in
    rw (refilled c.args.trees.now.len (slice_set trees index new) c.args.trees.now.items
    (omega (arith, length-set trees index new)))
    (λ spare room. room_stays trees index c.tree-item.result new below
    c.reserve.ensures.taken c.reserve.ensures.room spare
    (c.loop-tree.invariant.room spare (rw c.deref_mut-tree-items.ensures.value room)))

-- at the end all trees have taken room
pub returns-clause-ok : goal.returns-clause-ok
returns-clause-ok c =
    let trees = c.loop-tree.tree-items in let index = c.loop-tree.tree-index in
    rw (refilled c.args.trees.now.len trees c.args.trees.now.items (omega arith))
    (rw (take_all index trees (omega arith)) at c.loop-tree.invariant.taken)

pub returns-clause-room : goal.returns-clause-room
returns-clause-room c =
    let trees = c.loop-tree.tree-items in
    rw (refilled c.args.trees.now.len trees c.args.trees.now.items (omega arith))
    (λ spare room. c.loop-tree.invariant.room spare
    (rw c.deref_mut-tree-items.ensures.value room))
