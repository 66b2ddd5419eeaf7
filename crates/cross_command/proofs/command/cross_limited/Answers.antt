use Rattle.std.proofs.Common.{◌∙◌, sym, string_bytes}
use Rattle.std.proofs.lemmas.List.{length-map}
use Rattle.gate_files.specs.CommandOf.{run_value}
use Rattle.gate_files.specs.Objects.{objects_of}
use Rattle.session_tasks.proofs.StagesOfRun.{counted_as, unopened}
use Rattle.cross_command.specs.Crossed.{HasCrossed}
use Rattle.cross_command.proofs.ClearHistories.{ClearLaws}
use Rattle.cross_command.proofs.Ended.{ended_went}
use Rattle.cross_command.proofs.SameRuns.{ended_as, many_as, names_as, own_as, room_as}
use Rattle.cross_command.proofs.command.cross_limited.Goals as goal

pub open_sessions-requires-clause-names : goal.open_sessions-requires-clause-names
open_sessions-requires-clause-names g c κs within =
    names_as c.args.run.now c.in-Ok.ready.job.run c.in-Ok.ensures.run
    c.in-Ok.ready.job.names.sessions.items c.deref.result.now c.deref.ensures.value
    c.in-Ok.ensures.job.names

pub cross_opened-requires-clause-room : goal.cross_opened-requires-clause-room
cross_opened-requires-clause-room g c κs within =
    room_as c.args.run.now c.in-Ok.ready.job.run c.in-Ok.ensures.run c.in-Ok.ready.room
    c.in-Ok.ensures.room

pub cross_opened-requires-clause-many : goal.cross_opened-requires-clause-many
cross_opened-requires-clause-many g c κs within =
    many_as c.args.run.now c.in-Ok.ready.job.run c.in-Ok.ensures.run _
    c.in-Ok-open_sessions.ensures.many

pub cross_opened-requires-clause-own : goal.cross_opened-requires-clause-own
cross_opened-requires-clause-own g c κs within =
    own_as c.args.run.now c.in-Ok.ready.job.run c.in-Ok.ensures.run _ _
    c.in-Ok-open_sessions.ensures.ok.own

pub returns-in-Ok-open_sessions : goal.returns-in-Ok-open_sessions
returns-in-Ok-open_sessions g c =
    let run = run_value c.args.run.now in
    let laws : ClearLaws = record {
      clear = c.admitted_stays_clear.ensures;
      apart = c.admitted_orders_never_cross.ensures;
      own = c.a_history_admits_what_sessions_do.ensures;
    } in
    ended_went g.D.In.Source.faults run c.args.limits _ _ _ _ _ _ _ _ _ _ _ _
    c.in-Ok-open_sessions.ensures.ok
    (length-map c.in-Ok-open_sessions.opened.items
    (objects_of g.D.In.Source.left g.D.In.Source.name g.D.In.Source.faults g.D.Out.Sink.held
    g.D.Out.Sink.name g.D.Out.Sink.faults)
    ∙ c.in-Ok-open_sessions.ensures.many ∙ sym (length-map c.args.run.now.sessions.now
    string_bytes))
    (counted_as _ _ _ _ _ (sym (length-map c.args.run.now.sessions.now string_bytes))
    c.requires.limits)
    laws
    (ended_as c.args.run.now c.in-Ok.ready.job.run c.in-Ok.ensures.run g.D.In.Source.faults
    c.args.limits c.in-Ok.ready.job.limits _ _ _ _ _ c.in-Ok.ensures.limits
    c.cross_opened.ensures)

pub returns-in-Err-open_sessions : goal.returns-in-Err-open_sessions
returns-in-Err-open_sessions g c =
    unopened (HasCrossed (run_value c.args.run.now)) (run_value c.args.run.now)
    c.requires.limits.file _ _ _ _ _ _ c.in-Err-open_sessions.status c.requires.limits.file_is
    c.in-Err-open_sessions.ensures.err
