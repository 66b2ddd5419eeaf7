use Rattle.std.proofs.Common.{◌↔◌, IsTrue, subst}
use Rattle.gate_ports.specs.Calls.{CallsState, FailsToOpen}
use Rattle.gate_ports.proofs.calls.NameCalls.fails_to_open.Goals as goal

pub returns : goal.returns
returns c =
    let IsSo : CallsState → Type 0 = λ s. IsTrue c.is_listed.result ↔ FailsToOpen s in
    subst IsSo c.self.view_is (rw c.deref.ensures.value at c.is_listed.ensures)
