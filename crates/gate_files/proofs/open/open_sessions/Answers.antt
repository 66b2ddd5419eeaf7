use Rattle.std.proofs.Common.{ℕ, ◌+◌, length, map, arith, ◌∙◌, ap}
use Rattle.std.proofs.Common.{string_bytes, [], ◌∷◌}
use Rattle.std.proofs.Common.{length-append}
use Rattle.std.proofs.lemmas.List.{length-map, map-append}
use Rattle.gate_files.specs.CommandOf.{folder_value, run_value}
use Rattle.gate_files.specs.Objects.{objects_of}
use Rattle.gate_files.proofs.Early.{leaves_empty}
use Rattle.gate_files.proofs.Folder.{created, each_own_later}
use Rattle.gate_files.proofs.Closings.{opens_named, next_opened, unopened_named}
use Rattle.gate_files.proofs.Sessions.{name_at, outputs_at, session_apart}
use Rattle.gate_files.proofs.open.open_sessions.Goals as goal

pub close_sessions-requires-clause-own : goal.close_sessions-requires-clause-own
close_sessions-requires-clause-own g c κs within =
    each_own_later (run_value c.args.run.now) _ _ _ c.in-Err.ensures.went
    c.loop-session.invariant.opened.own

pub returns-in-Err-clause-err : goal.returns-in-Err-clause-err
returns-in-Err-clause-err g c =
    let session = c.loop-session.session in
    let below = c.loop-session-test.true in
    let names = outputs_at (folder_value c.args.run.now.out) _ session c.args.names.now
    c.index-names-session.result
    c.requires.names below c.index-names-session.is in
    unopened_named (run_value c.args.run.now) _ _ _ _ session c.in-Err.status _ _ _
    (omega (arith, length-map c.args.run.now.sessions.now string_bytes, below))
    (name_at c.args.run.now session c.index-run-session.result _ below c.index-run-session.is
    c.as_str.ensures.value)
    names.venue names.client c.loop-session.invariant.opened.went c.close_sessions.ensures.went
    c.in-Err.ensures.err
    (leaves_empty (run_value c.args.run.now) _ _ _ _ _ session _
    (length-map c.loop-session.all.items (objects_of g.D.In.Source.left g.D.In.Source.name
    g.D.In.Source.faults g.D.Out.Sink.held
    g.D.Out.Sink.name g.D.Out.Sink.faults) ∙ c.loop-session.invariant.many)
    names.venue (created (run_value c.args.run.now) _ _ _ c.loop-session.invariant.opened)
    c.in-Err.ensures.left c.close_sessions.ensures)

pub loop-session-preserved : goal.loop-session-preserved
loop-session-preserved g c =
    let session = c.loop-session.session in
    let below = c.loop-session-test.true in
    let names = outputs_at (folder_value c.args.run.now.out) _ session c.args.names.now
    c.index-names-session.result
    c.requires.names below c.index-names-session.is in
    record {
      opened = next_opened (run_value c.args.run.now) _ _ _ _ _ _ session
          (length-map c.loop-session.all.items (objects_of g.D.In.Source.left g.D.In.Source.name
          g.D.In.Source.faults g.D.Out.Sink.held
          g.D.Out.Sink.name g.D.Out.Sink.faults) ∙ c.loop-session.invariant.many)
          (session_apart (run_value c.args.run.now) session c.requires.run
          (omega (arith, length-map c.args.run.now.sessions.now string_bytes, below)))
          c.loop-session.invariant.opened
          (opens_named (run_value c.args.run.now) _ _ session _ _ _ _
          (name_at c.args.run.now session c.index-run-session.result _ below c.index-run-session.is
          c.as_str.ensures.value)
          names.venue names.client c.in-Ok-open_session.ensures.went
          c.in-Ok-open_session.ensures.texts
          c.in-Ok-open_session.ensures.input c.in-Ok-open_session.ensures.venue
          c.in-Ok-open_session.ensures.client)
          (ap (map (objects_of g.D.In.Source.left g.D.In.Source.name g.D.In.Source.faults
          g.D.Out.Sink.held
          g.D.Out.Sink.name g.D.Out.Sink.faults)) c.push_reserved.ensures.items
          ∙ map-append (objects_of g.D.In.Source.left g.D.In.Source.name g.D.In.Source.faults
          g.D.Out.Sink.held
          g.D.Out.Sink.name g.D.Out.Sink.faults) c.loop-session.all.items
          (c.in-Ok-open_session.opened ∷ []));
      many = ap length c.push_reserved.ensures.items
          ∙ length-append c.loop-session.all.items (c.in-Ok-open_session.opened ∷ [])
          ∙ ap (λ (n : ℕ). n + 1) c.loop-session.invariant.many;
      room = omega (
        arith,
        c.loop-session.invariant.room,
        c.push_reserved.ensures.len,
        c.push_reserved.ensures.capacity,
        below,
      );
    }
