use Rattle.std.proofs.Common.{sym, ◌∙◌}
use Rattle.gate_files.proofs.OutputNames.{is_file-marked, is_file-unmarked}
use Rattle.gate_files.proofs.words.is_file_of.Goals as goal

pub returns-in-None : goal.returns-in-None
returns-in-None c =
    sym (is_file-unmarked c.args.files c.args.session c.args.rest.now c.in-None.ensures)

pub returns-in-Some : goal.returns-in-Some
returns-in-Some c =
    c.is_ending.ensures
    ∙ is_file-marked c.args.files c.args.session c.args.rest.now c.in-Some.ending.now
    c.in-Some.ensures
