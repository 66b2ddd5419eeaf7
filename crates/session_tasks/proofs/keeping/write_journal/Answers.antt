use Rattle.std.proofs.Common.{List, ℕ, ap, ◌∙◌, subst}
use Rattle.std.specs.Prelude.{Err}
use Rattle.gate_files.specs.Early.{KeepsOrFronts}
use Rattle.gate_files.specs.Joined.{joined}
use Rattle.gate_files.specs.Ports.{Holds}
use Rattle.session_tasks.proofs.keeping.write_journal.Goals as goal

pub returns-in-Ok-clause-kept : goal.returns-in-Ok-clause-kept
returns-in-Ok-clause-kept g c =
    let after = g.D.Folder.texts c.write_file.new.folder in
    let text = ap joined c.deref.ensures.value ∙ c.in_ok-pieces.ensures in
    subst (λ (bytes : List ℕ). Holds after c.args.name.now bytes) text c.in-Ok.ensures.ok

pub returns-in-Err-Failed-clause-kept : goal.returns-in-Err-Failed-clause-kept
returns-in-Err-Failed-clause-kept g c =
    let before = g.D.Folder.texts c.args.folder.now in
    let after = g.D.Folder.texts c.write_file.new.folder in
    let text = ap joined c.deref.ensures.value ∙ c.in_ok-pieces.ensures in (
      c.in-Err-Failed.ensures.cause (ap (λ fault. Err fault) c.in-Err-Failed.field-0-is),
      subst (λ (bytes : List ℕ). KeepsOrFronts before after c.args.name.now bytes) text
          c.in-Err-Failed.ensures.err,
    )
