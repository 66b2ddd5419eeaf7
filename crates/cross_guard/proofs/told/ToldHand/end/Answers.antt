-- The act that ends a session is no call.
use Rattle.std.proofs.Common.{sym, ◌∙◌}
use Rattle.std.proofs.lemmas.List.{append-nil}
use Rattle.cross_guard.proofs.CallsTold.{calls_of-append}
use Rattle.cross_guard.proofs.told.ToldHand.end.Goals as goal

pub returns-clause-calls : goal.returns-clause-calls
returns-clause-calls g c =
    rw (← c.self.view_is, c.push_reserved.ensures.items, calls_of-append)
    (c.self.invariant.0.calls ∙ sym (append-nil _))
