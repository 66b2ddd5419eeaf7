use Rattle.std.proofs.Common.{ap, sym, ◌∙◌}
use Rattle.gate_ports.proofs.Rest.{consumes_front, none_left}
use Rattle.gate_ports.proofs.sure.SureSourceSource.fetch.Goals as goal

-- the bytes given are the front of what was left, and none only at the end
pub returns-clause-bytes : goal.returns-clause-bytes
returns-clause-bytes c =
    let read = c.copy_front-count.ensures in
    let all = c.deref.ensures.value in
    let front = rw all at read.front in
    let count = rw all at read.count in (
      sym (ap (λ s. s.left) c.self.view_is) ∙ consumes_front _ _ _ _ front,
      λ none room.
          none_left _ _ _ _ _ c.self.invariant.1 count none (rw c.copy_front-count.auto.to at room),
    )
