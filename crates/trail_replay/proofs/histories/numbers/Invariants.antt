use Rattle.std.proofs.Common.{◌≡◌}
use Rattle.trail_replay.specs.Reads.{list_below}
use Rattle.trail_replay.proofs.histories.numbers.Given as goal

abbrev pub invariant-loop-number : goal.invariant-loop-number
invariant-loop-number l = l.all.items ≡ list_below (λ number. number) l.number
