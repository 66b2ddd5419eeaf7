use Rattle.std.proofs.Common.{◌<◌, length, refl, arith}
use Rattle.std.proofs.lemmas.List.{length-map}
use Rattle.gate_files.specs.CommandOf.{folder_value, run_value}
use Rattle.gate_files.specs.Objects.{objects_of}
use Rattle.gate_files.proofs.Lists.{map_at}
use Rattle.gate_files.proofs.Lists.{first_left}
use Rattle.gate_files.proofs.Folder.{none_closed}
use Rattle.gate_files.proofs.Closings.{own_as, closes_named, next_closed}
use Rattle.gate_files.proofs.Sessions.{name_at, outputs_at, next_owned}
use Rattle.gate_files.proofs.close.close_sessions.Goals as goal

pub loop-session-init : goal.loop-session-init
loop-session-init g c = record { left = refl; closed = none_closed _ _ }

pub close_session-requires-clause-input : goal.close_session-requires-clause-input
close_session-requires-clause-input g c κs within =
    let session = c.loop-session.session in
    let below : session < length c.args.opened.items =
    omega (arith, c.len-count.ensures, c.loop-session-test.true) in
    let own = next_owned (objects_of g.I.In.Source.left g.I.In.Source.name
    g.I.In.Source.faults g.D.Out.Sink.held g.D.Out.Sink.name g.D.Out.Sink.faults)
    (run_value c.args.run.now) _ _ c.args.opened.items _ _ session c.remove-next.result
    c.loop-session.invariant.closed.went c.loop-session.invariant.left below
    c.remove-next.ensures.value c.remove-next.ensures.by_index.2 c.requires.own in
    own_as _ _ _ _ (name_at c.args.run.now session c.index-run-session.result _
    (omega (arith, below, c.requires.few)) c.index-run-session.is c.as_str.ensures.value) own.input

pub close_session-requires-clause-venue : goal.close_session-requires-clause-venue
close_session-requires-clause-venue g c κs within =
    let session = c.loop-session.session in
    let below : session < length c.args.opened.items =
    omega (arith, c.len-count.ensures, c.loop-session-test.true) in
    let own = next_owned (objects_of g.I.In.Source.left g.I.In.Source.name
    g.I.In.Source.faults g.D.Out.Sink.held g.D.Out.Sink.name g.D.Out.Sink.faults)
    (run_value c.args.run.now) _ _ c.args.opened.items _ _ session c.remove-next.result
    c.loop-session.invariant.closed.went c.loop-session.invariant.left below
    c.remove-next.ensures.value c.remove-next.ensures.by_index.2 c.requires.own in
    let names = outputs_at (folder_value c.args.run.now.out) _ session c.args.names.now
    c.index-names-session.result c.requires.names (omega (arith, below, c.requires.few))
    c.index-names-session.is in
    own_as _ _ _ _ names.venue own.venue

pub close_session-requires-clause-client : goal.close_session-requires-clause-client
close_session-requires-clause-client g c κs within =
    let session = c.loop-session.session in
    let below : session < length c.args.opened.items =
    omega (arith, c.len-count.ensures, c.loop-session-test.true) in
    let own = next_owned (objects_of g.I.In.Source.left g.I.In.Source.name
    g.I.In.Source.faults g.D.Out.Sink.held g.D.Out.Sink.name g.D.Out.Sink.faults)
    (run_value c.args.run.now) _ _ c.args.opened.items _ _ session c.remove-next.result
    c.loop-session.invariant.closed.went c.loop-session.invariant.left below
    c.remove-next.ensures.value c.remove-next.ensures.by_index.2 c.requires.own in
    let names = outputs_at (folder_value c.args.run.now.out) _ session c.args.names.now
    c.index-names-session.result c.requires.names (omega (arith, below, c.requires.few))
    c.index-names-session.is in
    own_as _ _ _ _ names.client own.client

pub loop-session-preserved : goal.loop-session-preserved
loop-session-preserved g c =
    let session = c.loop-session.session in
    let below : session < length c.args.opened.items =
    omega (arith, c.len-count.ensures, c.loop-session-test.true) in
    let taken = first_left c.args.opened.items c.loop-session.opened.items
    c.remove-next.new.self.items session c.remove-next.result c.loop-session.invariant.left below
    c.remove-next.ensures.value c.remove-next.ensures.by_index.2 in
    let names = outputs_at (folder_value c.args.run.now.out) _ session c.args.names.now
    c.index-names-session.result c.requires.names (omega (arith, below, c.requires.few))
    c.index-names-session.is in
    record {
      left = taken.1;
      closed = next_closed (run_value c.args.run.now) _ _ _ _ session _
          (map_at (objects_of g.I.In.Source.left g.I.In.Source.name
          g.I.In.Source.faults g.D.Out.Sink.held g.D.Out.Sink.name g.D.Out.Sink.faults)
          c.args.opened.items session c.remove-next.result taken.0)
          (omega (
            arith,
            length-map c.args.opened.items
                (objects_of g.I.In.Source.left g.I.In.Source.name
                g.I.In.Source.faults g.D.Out.Sink.held g.D.Out.Sink.name g.D.Out.Sink.faults),
            below,
          ))
          c.loop-session.invariant.closed
          (closes_named (run_value c.args.run.now) _ _ session _ _ _ _
          (name_at c.args.run.now session c.index-run-session.result _
          (omega (arith, below, c.requires.few)) c.index-run-session.is c.as_str.ensures.value)
          names.venue names.client c.close_session.ensures.went c.close_session.ensures.texts
          c.close_session.ensures.input_cause c.close_session.ensures.venue_cause
          c.close_session.ensures.client_cause);
    }
