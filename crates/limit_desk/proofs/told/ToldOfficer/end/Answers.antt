-- The act that ends an officer is no call.
use Rattle.std.proofs.Common.{sym, ◌∙◌}
use Rattle.std.proofs.lemmas.List.{append-nil}
use Rattle.admit_core.proofs.CallLemmas.{calls_at-append}
use Rattle.limit_desk.proofs.LimitCalls.{calls_from-append}
use Rattle.limit_desk.proofs.told.ToldOfficer.end.Goals as goal

pub returns-clause-halt_calls : goal.returns-clause-halt_calls
returns-clause-halt_calls g c =
    rw (← c.self.view_is, c.push_reserved.ensures.items, calls_at-append)
    (c.self.invariant.0.halt_calls ∙ sym (append-nil _))

pub returns-clause-desk_calls : goal.returns-clause-desk_calls
returns-clause-desk_calls g c =
    rw (← c.self.view_is, c.push_reserved.ensures.items, calls_from-append)
    (c.self.invariant.0.desk_calls ∙ sym (append-nil _))
