use Rattle.std.proofs.Common.{length}
use Rattle.session_tasks.specs.Tasks.{AreApart, HasSpare}
use Rattle.session_tasks.proofs.ended.taken_apart.Given as goal

-- what the first sessions left was taken apart, and there is room for the rest
abbrev pub invariant-loop-one : goal.invariant-loop-one
invariant-loop-one g l = record {
  apart : AreApart l.yielded l.ended;
  room : HasSpare (length l.one-iterator.rest.items) l.ended;
}
