use Rattle.std.proofs.Common.{◌∙◌, sym, string_bytes}
use Rattle.std.proofs.lemmas.List.{length-map}
use Rattle.gate_files.specs.CommandOf.{run_value}
use Rattle.gate_files.specs.Objects.{objects_of}
use Rattle.gate_program.proofs.Finished.{finished}
use Rattle.gate_program.proofs.finish.finish.Goals as goal

pub returns : goal.returns
returns g c =
    finished _ (run_value c.args.run.now) _ _ _ _ _
    c.args.finished.ends.items _ c.as_str.result.now _ _ _ c.deref-2.ensures.value
    (c.as_str.ensures.value ∙ c.requires.journal)
    (length-map c.args.finished.opened.items
    (objects_of g.I.In.Source.left g.I.In.Source.name g.I.In.Source.faults g.D.Out.Sink.held
    g.D.Out.Sink.name g.D.Out.Sink.faults)
    ∙ c.requires.object_count ∙ sym (length-map c.args.run.now.sessions.now string_bytes))
    c.close_sessions.ensures c.keep_journal.ensures.went
    c.keep_journal.ensures.stood
