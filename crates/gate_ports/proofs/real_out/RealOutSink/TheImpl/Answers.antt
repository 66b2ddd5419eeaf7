-- What the call promises of its own gives what a sink's promises.
use Rattle.std.proofs.Common.{refl}
use Rattle.gate_ports.proofs.Untold.{WriteAppends-untold}
use Rattle.gate_ports.proofs.real_out.RealOutSink.TheImpl.Goals as goal

pub give-tells : goal.give-tells
give-tells g x c = record {
  bound = c.ensures.bound;
  bytes = WriteAppends-untold c.result c.args.piece.now;
  cause = c.ensures.cause;
  name = refl;
}
