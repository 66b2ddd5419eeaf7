-- the trees so far: those at first, and empty ones
use Rattle.std.proofs.Common.{◌≡◌, ◌++◌, ◌-◌, [], map, length, replicate}
use Rattle.risk_journal.proofs.sparse.fill_up.Given as goal

abbrev pub invariant-loop : goal.invariant-loop
invariant-loop l =
    map (λ own. own.items) l.lists.items
    ≡ map (λ own. own.items) l.initial.lists.items
    ++ replicate (l.counter - length l.initial.lists.items) []
