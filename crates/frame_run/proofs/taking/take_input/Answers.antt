-- Where there is no buffer, nothing is fetched.
use Rattle.std.proofs.Common.{arith, []}
use Rattle.frame_run.proofs.Streaming.{fetches_none, stops_first}
use Rattle.frame_run.proofs.taking.take_input.Goals as goal

pub returns-in-Err-clause-fetched : goal.returns-in-Err-clause-fetched
returns-in-Err-clause-fetched g c = fetches_none (g.S.Source.left c.args.source.now)

pub returns-in-Err-clause-after : goal.returns-in-Err-clause-after
returns-in-Err-clause-after g c =
    (0, omega arith, g.met.T.TakesFrames.after_none c.args.taker.now)

pub returns-in-Err-clause-stopped : goal.returns-in-Err-clause-stopped
returns-in-Err-clause-stopped g c =
    stops_first g.T.TakesFrames.Took g.T.TakesFrames.Stopped c.args.taker.now (g.S.Source.left c.args.source.now)
    (g.met.T.TakesFrames.stopped_whole [] c.args.taker.now c.args.taker.now [] (c.requires.fresh []))
