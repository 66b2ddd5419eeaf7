-- What holds between two frames.
use Rattle.std.proofs.Common.{◌≡◌, ℕ, ◌≤◌, ◌-◌}
use Rattle.frame_run.specs.Ends.{input_most}
use Rattle.frame_run.specs.Taking.{Streams}
use Rattle.frame_run.proofs.taking.take_frames.Given as goal

abbrev pub invariant-loop-ahead : goal.invariant-loop-ahead
invariant-loop-ahead g l = record {
  streams : Streams g.T.TakesFrames.Took l.initial.taker l.taker (g.S.Source.left l.initial.source)
      (g.S.Source.left l.source) l.buffer;
  count : ℕ;
  few : count ≤ l.buffer.base;
  after : g.T.TakesFrames.IsAfter l.initial.taker l.taker count;
  source_later : g.S.Source.faults l.initial.source ≤ g.S.Source.faults l.source;
  source_name : g.S.Source.name l.source ≡ g.S.Source.name l.initial.source;
}

abbrev pub decreases-loop-ahead : goal.decreases-loop-ahead
decreases-loop-ahead g l = input_most - l.buffer.base
