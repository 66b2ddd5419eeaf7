use Rattle.std.proofs.Common.{◌∙◌}
use Rattle.gate_files.proofs.Chains.{told_as}
use Rattle.gate_files.proofs.telling.tell_fault.Goals as goal

pub returns-in-Ok : goal.returns-in-Ok
returns-in-Ok g c =
    told_as _ _ _ _ _ _ _ _ (c.deref.ensures.value ∙ c.in-Ok.ensures) c.tell_text.ensures
