use Rattle.std.proofs.Common.{◌≡◌, map, length}
use Rattle.gate_program.specs.Room.{HasSpare}
use Rattle.gate_program.proofs.ended.taken_apart.Given as goal

-- what the first sessions left was taken apart, and there is room for the rest
abbrev pub invariant-loop-one : goal.invariant-loop-one
invariant-loop-one g l = record {
  sums : l.ended.passes.sums.items ≡ map (λ d. d.sum) l.yielded;
  halts : l.ended.passes.halts.items ≡ map (λ d. d.halt) l.yielded;
  acts : map (λ own. own.items) l.ended.acts.items ≡ map (λ d. d.acts.items) l.yielded;
  ends : l.ended.ends.items ≡ map (λ d. d.end) l.yielded;
  opened : l.ended.opened.items ≡ map (λ d. d.opened) l.yielded;
  room : HasSpare (length l.one-iterator.rest.items) l.ended;
}
