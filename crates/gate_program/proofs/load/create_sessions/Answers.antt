use Rattle.std.proofs.Common.{ℕ, ◌+◌, ◌<◌, length, map, arith, ◌∙◌, ap, sym, refl}
use Rattle.std.proofs.Common.{string_bytes}
use Rattle.std.proofs.Common.{length-append, take_all}
use Rattle.std.proofs.lemmas.List.{length-map, map-append}
use Rattle.std.proofs.lemmas.Option.{slice_get_read}
use Rattle.std.specs.Prelude.{Some, None}
use Rattle.gate_ports.specs.Objects.{SureState}
use Rattle.gate_files.specs.CommandOf.{folder_value, run_value}
use Rattle.gate_files.specs.Objects.{objects_of}
use Rattle.gate_files.proofs.Early.{leaves_empty}
use Rattle.gate_files.proofs.Folder.{each_own_later}
use Rattle.gate_program.proofs.Created.{creates_named, named_by_venue, next_created}
use Rattle.gate_program.proofs.Created.{lefts_more, unmade_named}
use Rattle.gate_files.proofs.Lists.{first_left, map_at}
use Rattle.gate_files.proofs.Sessions.{outputs_at}
use Rattle.gate_program.proofs.load.create_sessions.Goals as goal

pub close_sessions-requires-clause-few : goal.close_sessions-requires-clause-few
close_sessions-requires-clause-few g c κs within = omega (
  arith,
  c.loop-session.invariant.many,
  c.loop-session-test.true,
  c.requires.names.many,
)

pub close_sessions-requires-clause-own : goal.close_sessions-requires-clause-own
close_sessions-requires-clause-own g c κs within =
    each_own_later (run_value c.args.run.now) _ _ _ c.in-Err.ensures.went
    c.loop-session.invariant.created.own

pub returns-in-Err-clause-err : goal.returns-in-Err-clause-err
returns-in-Err-clause-err g c =
    let session = c.loop-session.session in
    let below : session < length c.args.run.now.sessions.now =
    omega (arith, c.loop-session-test.true, c.requires.names.many) in
    let names = outputs_at (folder_value c.args.run.now.out) _ session c.args.names.now
    c.index-names-session.result c.requires.names below c.index-names-session.is in
    unmade_named (run_value c.args.run.now) _ _ _ _ session c.in-Err.status _ _
    (omega (arith, length-map c.args.run.now.sessions.now string_bytes, below))
    names.venue names.client c.loop-session.invariant.created.went c.close_sessions.ensures.went
    c.in-Err.ensures.err
    (leaves_empty (run_value c.args.run.now) _ _ _ _ _ session _
    (length-map c.loop-session.all.items (objects_of (λ (s : SureState). Some s.left) (λ s. None)
    (λ s. 0) g.D.Out.Sink.held g.D.Out.Sink.name g.D.Out.Sink.faults)
    ∙ c.loop-session.invariant.many)
    names.venue c.loop-session.invariant.created c.in-Err.ensures.left c.close_sessions.ensures)

pub loop-session-preserved : goal.loop-session-preserved
loop-session-preserved g c =
    let f = objects_of (λ (s : SureState). Some s.left) (λ s. None) (λ s. 0)
    g.D.Out.Sink.held g.D.Out.Sink.name g.D.Out.Sink.faults in
    let session = c.loop-session.session in
    let below : session < length c.args.run.now.sessions.now =
    omega (arith, c.loop-session-test.true, c.requires.names.many) in
    let taken = first_left c.args.files.items c.loop-session.files.items c.remove.new.self.items
    session c.remove.result c.loop-session.invariant.files
    (omega (arith, below, c.requires.files)) c.remove.ensures.value c.remove.ensures.by_index.2 in
    let names = outputs_at (folder_value c.args.run.now.out) _ session c.args.names.now
    c.index-names-session.result c.requires.names below c.index-names-session.is in
    record {
      created = next_created (run_value c.args.run.now) _ _ _ _ _ _ session
          (length-map c.loop-session.all.items f ∙ c.loop-session.invariant.many)
          c.loop-session.invariant.created
          (creates_named (run_value c.args.run.now) _ _ session _ _ _ names.venue names.client
          (named_by_venue (run_value c.args.run.now) c.args.names.now session
          c.index-names-session.result c.requires.inputs
          (slice_get_read c.args.names.now _ session _ refl c.loop-session-test.true
          c.index-names-session.is))
          refl refl refl c.in-Ok-create_outputs.ensures.went c.in-Ok-create_outputs.ensures.texts
          c.in-Ok-create_outputs.ensures.venue c.in-Ok-create_outputs.ensures.client)
          (ap (map f) c.push_reserved.ensures.items ∙ map-append f c.loop-session.all.items _);
      many = ap length c.push_reserved.ensures.items
          ∙ length-append c.loop-session.all.items _
          ∙ ap (λ (n : ℕ). n + 1) c.loop-session.invariant.many;
      lefts = ap (map _) c.push_reserved.ensures.items
          ∙ lefts_more _ c.loop-session.all.items _
          (map (λ own. own.items) c.args.files.items) session c.loop-session.invariant.lefts
          (map_at (λ own. own.items) c.args.files.items session c.remove.result taken.0
          ∙ ap (λ (s : SureState). Some s.left) (sym c.new.ensures));
      files = taken.1;
      room = omega (
        arith,
        c.loop-session.invariant.room,
        c.push_reserved.ensures.len,
        c.push_reserved.ensures.capacity,
        c.loop-session-test.true,
      );
    }

pub returns-clause-lefts : goal.returns-clause-lefts
returns-clause-lefts g c =
    c.loop-session.invariant.lefts
    ∙ take_all c.loop-session.session (map (λ own. own.items) c.args.files.items) (omega (
      arith,
      length-map c.args.files.items (λ own. own.items),
      c.loop-session-test.false,
      c.requires.files,
      c.requires.names.many,
    ))
