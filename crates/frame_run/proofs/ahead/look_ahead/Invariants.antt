-- more bytes of the input came
use Rattle.std.proofs.Common.{◌≡◌, ◌≤◌, ◌+◌, ◌-◌, length}
use Rattle.frame_run.specs.Ahead.{HasMore}
use Rattle.frame_run.specs.Ends.{input_most}
use Rattle.frame_run.proofs.ahead.look_ahead.Given as goal

abbrev pub invariant-loop-next : goal.invariant-loop-next
invariant-loop-next g l = record {
  more : HasMore (g.S.Source.left l.fn.source) (g.S.Source.left l.source) l.fn.buffer l.buffer;
  later : g.S.Source.faults l.fn.source ≤ g.S.Source.faults l.source;
  name : g.S.Source.name l.source ≡ g.S.Source.name l.fn.source;
}

abbrev pub decreases-loop-next : goal.decreases-loop-next
decreases-loop-next g l = input_most - (l.buffer.base + length l.buffer.held)
