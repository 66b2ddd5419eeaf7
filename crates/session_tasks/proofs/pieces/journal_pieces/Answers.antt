use Rattle.session_tasks.proofs.JournalPieces.{all_joined, first_joined}
use Rattle.session_tasks.proofs.pieces.journal_pieces.Goals as goal

pub returns : goal.returns
returns g c =
    all_joined c.push.new.self.items c.add_pieces.new.pieces.items c.add_pieces-2.new.pieces.items
    c.args.journal.now.acts.items c.deref.result.now c.args.journal.now.lines.items
    c.deref-2.result.now c.in_ok-sessions.sessions.items c.in_ok-trees.trees.items
    (first_joined c.new-pieces.result.items c.push.new.self.items c.in_ok-first_piece.field-0
    c.new-pieces.ensures.items c.in-Ok.ensures.items c.in_ok-first_piece.ensures)
    c.deref.ensures.value c.deref-2.ensures.value c.in_ok-sessions.ensures
    c.in_ok-add_pieces.ensures.whole c.in_ok-add_pieces.ensures.bytes c.in_ok-trees.ensures
    c.in_ok-add_pieces-2.ensures.whole c.in_ok-add_pieces-2.ensures.bytes
