use Rattle.std.proofs.Common.{◌∙◌, sym, string_bytes}
use Rattle.std.proofs.lemmas.List.{length-map}
use Rattle.gate_files.specs.CommandOf.{run_value}
use Rattle.gate_files.specs.Objects.{objects_of}
use Rattle.session_tasks.proofs.KeptSessions.{has_kept}
use Rattle.session_tasks.proofs.keeping.keep.Goals as goal

pub returns-clause-kept : goal.returns-clause-kept
returns-clause-kept g c =
    has_kept (run_value c.args.job.now.run) _ _ _ _ _ _ _ _
    (c.as_str.ensures.value ∙ c.requires.job.journal)
    (length-map c.args.finished.opened.items
    (objects_of g.I.In.Source.left g.I.In.Source.name g.I.In.Source.faults g.D.Out.Sink.held
    g.D.Out.Sink.name g.D.Out.Sink.faults)
    ∙ c.requires.object_count ∙ sym (length-map c.args.job.now.run.sessions.now string_bytes))
    c.close_sessions.ensures c.write_journal.ensures.went
    c.in_ok-refused.ensures.kept c.in_ok-refused.ensures.others
