use Rattle.std.proofs.Common.{sym, ◌∙◌}
use Rattle.gate_files.specs.CommandOf.{folder_value}
use Rattle.gate_files.proofs.OutputNames.{is_output-within, is_output-outside}
use Rattle.gate_files.proofs.words.is_output.Goals as goal

pub returns-in-None : goal.returns-in-None
returns-in-None c =
    sym (is_output-outside (folder_value c.args.out) c.args.name.now c.args.count c.in-None.ensures)

pub returns-in-Some : goal.returns-in-Some
returns-in-Some c =
    c.is_file.ensures
    ∙ is_output-within (folder_value c.args.out) c.args.name.now c.in-Some.rest.now c.args.count
    c.in-Some.ensures
