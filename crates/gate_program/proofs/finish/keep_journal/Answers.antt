use Rattle.std.proofs.Common.{ap, ◌∙◌, subst, List, ℕ, true, false}
use Rattle.std.specs.Prelude.{Err}
use Rattle.gate_files.specs.Early.{KeepsOrFronts}
use Rattle.gate_files.specs.Ports.{Holds}
use Rattle.gate_files.specs.Joined.{joined}
use Rattle.gate_program.proofs.Finished.{stood}
use Rattle.gate_program.proofs.finish.keep_journal.Goals as goal

pub returns-in-Ok-write_file-clause-stood : goal.returns-in-Ok-write_file-clause-stood
returns-in-Ok-write_file-clause-stood g c =
    let after = g.D.Folder.texts c.write_file.new.folder in
    let text = ap joined c.deref.ensures.value ∙ c.in-Ok.ensures in
    stood _ c.args.name.now _ _ _ c.args.ends.now _ _ _ false
    c.answer_after.ensures
    (subst (λ (bytes : List ℕ). Holds after c.args.name.now bytes) text
    c.in-Ok-write_file.ensures.ok)
    c.in-Ok-write_file.ensures.others

pub returns-in-Err-Failed-clause-stood : goal.returns-in-Err-Failed-clause-stood
returns-in-Err-Failed-clause-stood g c =
    let before = g.D.Folder.texts c.args.folder.now in
    let after = g.D.Folder.texts c.write_file.new.folder in
    let text = ap joined c.deref.ensures.value ∙ c.in-Ok.ensures in
    stood _ c.args.name.now _ _ _ c.args.ends.now _ _ _ true
    c.answer_after-in-Err-Failed.ensures (
      c.in-Err-Failed.ensures.cause (ap (λ fault. Err fault) c.in-Err-Failed.field-0-is),
      subst (λ (bytes : List ℕ). KeepsOrFronts before after c.args.name.now bytes) text
          c.in-Err-Failed.ensures.err,
    )
    c.in-Err-Failed.ensures.others
