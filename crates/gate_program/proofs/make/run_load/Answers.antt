use Rattle.std.proofs.Common.{◌≡◌, ℕ, length, map, arith, ap, sym, ◌∙◌, subst, refl}
use Rattle.std.proofs.lemmas.List.{length-map}
use Rattle.std.specs.Prelude.{Some, None}
use Rattle.std.specs.List.{range_with_len}
use Rattle.gate_ports.specs.Objects.{SureState}
use Rattle.gate_program.specs.Loads.{load_folder}
use Rattle.gate_files.specs.Objects.{objects_of}
use Rattle.gate_program.specs.Room.{HasSpare}
use Rattle.gate_files.specs.Words.{session_most, venue_name}
use Rattle.gate_program.proofs.LoadRuns.{files_many, lefts_are, names_for, no_screens_in, run_is, run_went}
use Rattle.gate_program.proofs.LoadRuns.{second_are, second_many, unmade_run}
use Rattle.gate_program.proofs.make.run_load.Goals as goal

pub ready_in_load-requires : goal.ready_in_load-requires
ready_in_load-requires g c = omega (
  arith,
  files_many c.args.asked.now c.args.files.items c.requires.files,
  c.requires.asked.most,
)

pub create_sessions-requires-clause-most : goal.create_sessions-requires-clause-most
create_sessions-requires-clause-most g c κs within = omega (
  arith,
  second_many load_folder c.len.result c.in-Ok.ready.names.sessions.items
      c.deref.result.now c.in-Ok-input_names.names.items c.deref-2.result.now c.in-Ok.ensures.names
      c.deref.ensures.value c.deref-2.ensures.value c.in-Ok-input_names.ensures,
  c.len.ensures,
  files_many c.args.asked.now c.args.files.items c.requires.files,
  c.requires.asked.most,
)

pub create_sessions-requires-clause-names : goal.create_sessions-requires-clause-names
create_sessions-requires-clause-names g c κs within =
    names_for load_folder c.len.result c.in-Ok.ready.names.sessions.items
    c.deref.result.now c.in-Ok-input_names.names.items c.deref-2.result.now c.in-Ok.ensures.names
    c.deref.ensures.value c.deref-2.ensures.value c.in-Ok-input_names.ensures
    c.deref-3.result.now c.deref-3.ensures.value

pub create_sessions-requires-clause-files : goal.create_sessions-requires-clause-files
create_sessions-requires-clause-files g c κs within = omega (
  arith,
  second_many load_folder c.len.result c.in-Ok.ready.names.sessions.items
      c.deref.result.now c.in-Ok-input_names.names.items c.deref-2.result.now c.in-Ok.ensures.names
      c.deref.ensures.value c.deref-2.ensures.value c.in-Ok-input_names.ensures,
  c.len.ensures,
)

pub run_opened-requires-clause-some : goal.run_opened-requires-clause-some
run_opened-requires-clause-some g c κs within = omega (
  arith,
  second_many load_folder c.len.result c.in-Ok.ready.names.sessions.items
      c.deref.result.now c.in-Ok-input_names.names.items c.deref-2.result.now c.in-Ok.ensures.names
      c.deref.ensures.value c.deref-2.ensures.value c.in-Ok-input_names.ensures,
  c.len.ensures,
  files_many c.args.asked.now c.args.files.items c.requires.files,
  c.requires.asked.some,
)

pub run_opened-requires-clause-most : goal.run_opened-requires-clause-most
run_opened-requires-clause-most g c κs within = omega (
  arith,
  second_many load_folder c.len.result c.in-Ok.ready.names.sessions.items
      c.deref.result.now c.in-Ok-input_names.names.items c.deref-2.result.now c.in-Ok.ensures.names
      c.deref.ensures.value c.deref-2.ensures.value c.in-Ok-input_names.ensures,
  c.len.ensures,
  files_many c.args.asked.now c.args.files.items c.requires.files,
  c.requires.asked.most,
)

pub run_opened-requires-clause-names : goal.run_opened-requires-clause-names
run_opened-requires-clause-names g c κs within =
    names_for load_folder c.len.result c.in-Ok.ready.names.sessions.items
    c.deref.result.now c.in-Ok-input_names.names.items c.deref-2.result.now c.in-Ok.ensures.names
    c.deref.ensures.value c.deref-2.ensures.value c.in-Ok-input_names.ensures
    c.in-Ok.ready.names.sessions.items refl

pub run_opened-requires-clause-task_room : goal.run_opened-requires-clause-task_room
run_opened-requires-clause-task_room g c κs within = omega (
  arith,
  second_many load_folder c.len.result c.in-Ok.ready.names.sessions.items
      c.deref.result.now c.in-Ok-input_names.names.items c.deref-2.result.now c.in-Ok.ensures.names
      c.deref.ensures.value c.deref-2.ensures.value c.in-Ok-input_names.ensures,
  c.in-Ok.ensures.task_room,
)

pub run_opened-requires-clause-room : goal.run_opened-requires-clause-room
run_opened-requires-clause-room g c κs within =
    subst (λ (n : ℕ). HasSpare n c.in-Ok.ready.room.ended)
    (sym (second_many load_folder c.len.result c.in-Ok.ready.names.sessions.items
    c.deref.result.now c.in-Ok-input_names.names.items c.deref-2.result.now c.in-Ok.ensures.names
    c.deref.ensures.value c.deref-2.ensures.value c.in-Ok-input_names.ensures))
    c.in-Ok.ensures.room

pub run_opened-requires-clause-many : goal.run_opened-requires-clause-many
run_opened-requires-clause-many g c κs within = omega (
  arith,
  second_many load_folder c.len.result c.in-Ok.ready.names.sessions.items
      c.deref.result.now c.in-Ok-input_names.names.items c.deref-2.result.now c.in-Ok.ensures.names
      c.deref.ensures.value c.deref-2.ensures.value c.in-Ok-input_names.ensures,
  c.len.ensures,
  length-map c.in-Ok-create_sessions.opened.items (λ own. own.input.left),
  length-map c.args.files.items (λ own. own.items),
  ap length c.in-Ok-create_sessions.ensures.lefts,
)

pub returns-in-Ok-create_sessions : goal.returns-in-Ok-create_sessions
returns-in-Ok-create_sessions g c =
    let f = objects_of (λ (s : SureState). Some s.left) (λ s. None) (λ s. 0)
    g.D.Out.Sink.held g.D.Out.Sink.name g.D.Out.Sink.faults in
    let count : c.len.result ≡ c.args.asked.now.sessions =
    omega (arith, c.len.ensures, files_many c.args.asked.now c.args.files.items c.requires.files) in
    let same = run_is _ c.args.asked.now refl refl
    (second_are load_folder c.len.result c.in-Ok.ready.names.sessions.items
    c.deref.result.now c.in-Ok-input_names.names.items c.deref-2.result.now c.in-Ok.ensures.names
    c.deref.ensures.value c.deref-2.ensures.value c.in-Ok-input_names.ensures
    ∙ ap (λ (n : ℕ). map (venue_name load_folder) (range_with_len 0 n)) count) in
    run_went (λ (s : SureState). 0) (λ s. refl) c.args.asked.now c.requires.asked
    (record { frames = c.loads_are_whole.ensures.frames; size = c.loads_are_whole.ensures.size })
    c.args.limits.now _
    (no_screens_in _ c.in-Ok-no_screens.screens.items session_most c.in-Ok-no_screens.ensures.sets)
    c.args.told.now c.requires.told _ same _ _ _ _ _ _ _ _ _ _ _ _
    c.in-Ok-create_sessions.ensures.ok
    (omega (
      arith,
      count,
      c.len.ensures,
      length-map c.in-Ok-create_sessions.opened.items f,
      length-map c.in-Ok-create_sessions.opened.items (λ own. own.input.left),
      length-map c.args.files.items (λ own. own.items),
      ap length c.in-Ok-create_sessions.ensures.lefts,
    ))
    (lefts_are f (λ own. own.input.left) (λ own. refl) c.in-Ok-create_sessions.opened.items
    c.args.asked.now (c.in-Ok-create_sessions.ensures.lefts ∙ c.requires.files))
    c.requires.limits
    record {
      stays = c.admitted_stays_within.ensures;
      own = c.a_history_admits_what_sessions_do.ensures;
    }
    c.run_opened.ensures

pub returns-in-Err : goal.returns-in-Err
returns-in-Err g c =
    let count : c.len.result ≡ c.args.asked.now.sessions =
    omega (arith, c.len.ensures, files_many c.args.asked.now c.args.files.items c.requires.files) in
    unmade_run c.args.asked.now _ (run_is _ c.args.asked.now refl refl
    (second_are load_folder c.len.result c.in-Ok.ready.names.sessions.items
    c.deref.result.now c.in-Ok-input_names.names.items c.deref-2.result.now c.in-Ok.ensures.names
    c.deref.ensures.value c.deref-2.ensures.value c.in-Ok-input_names.ensures
    ∙ ap (λ (n : ℕ). map (venue_name load_folder) (range_with_len 0 n)) count))
    _ _ _ _ _ _ c.in-Err.status c.in-Err.ensures.err
