use Rattle.std.proofs.Common.{arith}
use Rattle.gate_files.proofs.Early.{front_of_pieces, on_err_always}
use Rattle.gate_files.proofs.writing.give_pieces.Goals as goal

pub returns-in_err-give_all-clause-err : goal.returns-in_err-give_all-clause-err
returns-in_err-give_all-clause-err g c =
    on_err_always c.from_residual.result
    (front_of_pieces (g.S.Sink.held c.args.sink.now) (g.S.Sink.held c.loop-piece.sink)
    (g.S.Sink.held c.give_all.new.sink) c.args.pieces.now c.loop-piece.piece-index
    c.piece-item.result c.deref.result.now (omega arith) c.piece-item.is c.deref.ensures.value
    c.loop-piece.invariant.so_far c.in_err-give_all.ensures.err)
