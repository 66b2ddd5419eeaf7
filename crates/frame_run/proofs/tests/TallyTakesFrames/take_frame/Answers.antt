-- A tally says nothing of where it stopped.
use Rattle.std.proofs.Common.{◌≡◌, length}
use Rattle.frame_run.proofs.Stops.{stops_within}
use Rattle.frame_run.proofs.tests.TallyTakesFrames.take_frame.Goals as goal

pub returns-then-self-clause-stopped : goal.returns-then-self-clause-stopped
returns-then-self-clause-stopped c =
    stops_within (λ input start frames now. (start.frames ≡ 0) × (now.frames ≡ length frames))
    (λ why input start frames now. Unit {0}) c.args._bytes.now c.args._frame.now c.args.self.now
    c.args.self.now c.args.self.now.why (λ input start frames next is took. tt)
