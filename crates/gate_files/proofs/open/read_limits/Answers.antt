-- What was read of the limit file decides about all of it.
use Rattle.std.proofs.Common.{List, ℕ, subst, arith}
use Rattle.limit_table.specs.Files.{IsLimitFile}
use Rattle.limit_table.specs.declared.limits.Limits.{Limits}
use Rattle.gate_files.specs.declared.status.Status.{Status}
use Rattle.gate_files.specs.Ports.{PortsValue}
use Rattle.gate_files.specs.Stages.{folder_of, GivesNoLimits, HasLimitsFault}
use Rattle.gate_files.specs.Stops.{HasLimits}
use Rattle.gate_files.proofs.LimitFiles.{if_ok, if_err, has_limits, has_limits_fault}
use Rattle.gate_files.proofs.open.read_limits.Goals as goal

pub returns-clause-ok : goal.returns-clause-ok
returns-clause-ok g c =
    let text = c.deref.result.now in
    let told = g.D.Folder.texts c.args.folder.now in
    if_ok (λ (l : Limits). IsLimitFile text l)
    (λ (l : Limits). HasLimits told c.args.name.now l) c.limits_from.result
    (λ l are. has_limits c.args.name.now _ (omega arith) told c.in-Ok.bytes.items l
    c.in-Ok.ensures.ok
    (subst (λ (t : List ℕ). IsLimitFile t l) c.deref.ensures.value are))
    c.limits_from.ensures.ok

pub returns-clause-err : goal.returns-clause-err
returns-clause-err g c =
    let text = c.deref.result.now in
    let before : PortsValue = folder_of g.D.Folder.texts g.D.Folder.read_faults
    g.D.Folder.write_faults c.args.folder.now in
    let after : PortsValue = folder_of g.D.Folder.texts g.D.Folder.read_faults
    g.D.Folder.write_faults c.fetch_name.new.folder in
    if_err (λ (s : Status). GivesNoLimits text s)
    (λ (s : Status). HasLimitsFault before after c.args.name.now s) c.limits_from.result
    (λ s gives. has_limits_fault c.args.name.now _ (omega arith) before after c.in-Ok.bytes.items s
    c.in-Ok.ensures.ok
    (subst (λ (t : List ℕ). GivesNoLimits t s) c.deref.ensures.value gives))
    c.limits_from.ensures.err
