use Rattle.std.proofs.Common.{◌∙◌, sym, ap, ◌||◌, Bool, map, string_bytes}
use Rattle.std.specs.List.{list_any}
use Rattle.gate_files.specs.CommandOf.{folder_value}
use Rattle.gate_files.specs.Words.{is_among, output_names}
use Rattle.gate_files.proofs.Lists.{list_any-map}
use Rattle.gate_files.proofs.words.reads_outputs.Goals as goal

pub returns : goal.returns
returns c =
    let outputs = output_names (folder_value c.args.run.now.out) c.args.count in
    c.has_output.ensures
    ∙ sym (list_any-map (λ name. is_among name outputs) string_bytes c.args.run.now.sessions.now)
    ∙ ap (λ (b : Bool). b || list_any (λ name. is_among name outputs)
    (map string_bytes c.args.run.now.sessions.now))
    (sym (sym c.is_output.ensures ∙ c.if-is_output.false))
