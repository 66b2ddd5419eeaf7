-- no calls of the sessions so far
use Rattle.std.proofs.Common.{◌≡◌, [], map, replicate}
use Rattle.risk_board.proofs.board.open_calls.Given as goal

abbrev pub invariant-loop : goal.invariant-loop
invariant-loop l = map (λ calls. calls.items) l.all.items ≡ replicate l.counter []
