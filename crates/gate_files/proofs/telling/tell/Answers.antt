use Rattle.std.proofs.Common.{ap, sym}
use Rattle.gate_files.specs.Statuses.{told_text}
use Rattle.gate_files.proofs.Chains.{told_as, told_by}
use Rattle.gate_files.proofs.telling.tell.Goals as goal

pub returns-in-Usage : goal.returns-in-Usage
returns-in-Usage g c =
    told_as _ _ _ _ _ _ _ _ (ap told_text (sym c.in-Usage.is)) c.tell_text.ensures

pub returns-in-Limits : goal.returns-in-Limits
returns-in-Limits g c = told_by _ _ _ _ _ _ _ c.in-Limits.is c.tell_fault.ensures
