use Rattle.std.proofs.Common.{◌∙◌, sym, string_bytes, arith}
use Rattle.std.proofs.lemmas.List.{length-map}
use Rattle.gate_files.specs.CommandOf.{run_value}
use Rattle.gate_files.specs.Objects.{objects_of}
use Rattle.gate_program.proofs.RunStarts.{few_sessions, some_session}
use Rattle.gate_program.proofs.Ways.{counted_as, ended_went, unopened}
use Rattle.gate_program.proofs.command.run_limited.Goals as goal

pub run_opened-requires-clause-some : goal.run_opened-requires-clause-some
run_opened-requires-clause-some g c κs within = omega (
  arith,
  some_session (run_value c.args.run.now) c.requires.run,
  length-map c.args.run.now.sessions.now string_bytes,
)

pub run_opened-requires-clause-most : goal.run_opened-requires-clause-most
run_opened-requires-clause-most g c κs within = omega (
  arith,
  few_sessions (run_value c.args.run.now) c.requires.run,
  length-map c.args.run.now.sessions.now string_bytes,
)

pub returns-in-Ok-open_sessions : goal.returns-in-Ok-open_sessions
returns-in-Ok-open_sessions g c =
    ended_went g.D.In.Source.faults (run_value c.args.run.now) c.args.limits.now _ _ _ _ _ _ _ _ _ _ _ _ _
    c.in-Ok-open_sessions.ensures.ok
    (length-map c.in-Ok-open_sessions.opened.items
    (objects_of g.D.In.Source.left g.D.In.Source.name g.D.In.Source.faults g.D.Out.Sink.held
    g.D.Out.Sink.name g.D.Out.Sink.faults)
    ∙ c.in-Ok-open_sessions.ensures.many ∙ sym (length-map c.args.run.now.sessions.now
    string_bytes))
    (counted_as _ _ _ _ _ (sym (length-map c.args.run.now.sessions.now string_bytes))
    c.requires.limits)
    record {
      stays = c.admitted_stays_within.ensures;
      own = c.a_history_admits_what_sessions_do.ensures;
    }
    c.run_opened.ensures

pub returns-in-Err-open_sessions : goal.returns-in-Err-open_sessions
returns-in-Err-open_sessions g c =
    unopened (run_value c.args.run.now) c.requires.limits.file _ _ _ _ _ _ _
    c.in-Err-open_sessions.status
    c.requires.limits.file_is c.in-Err-open_sessions.ensures.err
