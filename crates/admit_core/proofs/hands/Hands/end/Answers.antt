-- The act that ends a session is no call.
use Rattle.std.proofs.Common.{sym, ◌∙◌}
use Rattle.std.proofs.lemmas.List.{append-nil}
use Rattle.admit_core.proofs.CallLemmas.{calls_below-append, calls_at-append}
use Rattle.admit_core.proofs.hands.Hands.end.Goals as goal

pub returns-clause-sum_calls : goal.returns-clause-sum_calls
returns-clause-sum_calls g c =
    rw (← c.self.view_is, c.push_reserved.ensures.items, calls_below-append)
    (c.self.invariant.0.sum_calls ∙ sym (append-nil _))

pub returns-clause-halt_calls : goal.returns-clause-halt_calls
returns-clause-halt_calls g c =
    rw (← c.self.view_is, c.push_reserved.ensures.items, calls_at-append)
    (c.self.invariant.0.halt_calls ∙ sym (append-nil _))
