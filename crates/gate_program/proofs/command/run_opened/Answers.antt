use Rattle.std.proofs.Common.{◌≡◌, ℕ, refl, length, map, ap, sym, ◌∙◌, subst, arith}
use Rattle.std.proofs.lemmas.List.{length-map}
use Rattle.f_array.proofs.NewPasses.{length-new_passes}
use Rattle.gate_files.specs.CommandOf.{run_value}
use Rattle.gate_program.specs.Forests.{AreOpened}
use Rattle.gate_files.specs.Objects.{objects_of, EachOwn}
use Rattle.gate_program.proofs.Owned.{own_after}
use Rattle.gate_program.proofs.PlacedDone.{PlacesLaw, counts_of, done_before, ended}
use Rattle.gate_program.proofs.RunStarts.{task_sets}
use Rattle.gate_program.proofs.TasksBack.{mapped_twice}
use Rattle.gate_program.proofs.command.run_opened.Goals as goal

pub tasks_of-tasks-requires-clause-sums : goal.tasks_of-tasks-requires-clause-sums
tasks_of-tasks-requires-clause-sums g c =
    ap length c.in-Ok.ensures.passes.sums
    ∙ length-new_passes c.in-Ok.opening.forests.sums (length c.args.run.now.sessions.now)
    ∙ sym c.requires.many

pub tasks_of-tasks-requires-clause-halts : goal.tasks_of-tasks-requires-clause-halts
tasks_of-tasks-requires-clause-halts g c =
    ap length c.in-Ok.ensures.passes.halts
    ∙ length-new_passes c.in-Ok.opening.forests.halts (length c.args.run.now.sessions.now)
    ∙ sym c.requires.many

pub run_sessions-requires-clause-some : goal.run_sessions-requires-clause-some
run_sessions-requires-clause-some g c κs within =
    omega (
      arith,
      c.requires.some,
      c.requires.many,
      ap length c.tasks_of-tasks.ensures.opened,
      length-map c.tasks_of-tasks.result.items (λ t. t.opened),
    )

pub run_sessions-requires-clause-forests : goal.run_sessions-requires-clause-forests
run_sessions-requires-clause-forests g c κs within =
    let as_many : length c.args.run.now.sessions.now ≡ length c.tasks_of-tasks.result.items =
    omega (
      arith,
      c.requires.many,
      ap length c.tasks_of-tasks.ensures.opened,
      length-map c.tasks_of-tasks.result.items (λ t. t.opened),
    ) in
    subst (λ (n : ℕ). AreOpened c.args.limits.now n c.in-Ok.opening.forests) as_many
    c.in-Ok.ensures.forests

pub finish_run-requires-clause-own : goal.finish_run-requires-clause-own
finish_run-requires-clause-own g c κs within =
    let f = objects_of g.I.In.Source.left g.I.In.Source.name g.I.In.Source.faults g.D.Out.Sink.held
    g.D.Out.Sink.name g.D.Out.Sink.faults in
    own_after (run_value c.args.run.now) _ c.args.limits.now _ _ _ _ _
    c.in-Ok-run_sessions.ensures.done
    (subst (EachOwn (run_value c.args.run.now) _)
    (sym (ap (map f) c.tasks_of-tasks.ensures.opened)
    ∙ mapped_twice f (λ t. t.opened) c.tasks_of-tasks.result.items) c.requires.own)

pub close_sessions-requires-in-Err-clause-own : goal.close_sessions-requires-in-Err-clause-own
close_sessions-requires-in-Err-clause-own g c κs within =
    let f = objects_of g.I.In.Source.left g.I.In.Source.name g.I.In.Source.faults g.D.Out.Sink.held
    g.D.Out.Sink.name g.D.Out.Sink.faults in
    subst (EachOwn (run_value c.args.run.now) _)
    (ap (map f) (sym (c.in-Err.ensures.err ∙ c.tasks_of-tasks.ensures.opened))) c.requires.own

pub returns-in-Ok-run_sessions : goal.returns-in-Ok-run_sessions
returns-in-Ok-run_sessions g c =
    let f = objects_of g.I.In.Source.left g.I.In.Source.name g.I.In.Source.faults g.D.Out.Sink.held
    g.D.Out.Sink.name g.D.Out.Sink.faults in
    let tasks = c.tasks_of-tasks.result.items in
    let law : PlacesLaw = record {
      free = c.places_are_free.ensures.input;
      early = c.places_are_free.ensures.early;
    } in
    let before = sym (mapped_twice f (λ t. t.opened) tasks)
    ∙ ap (map f) c.tasks_of-tasks.ensures.opened in
    ended law g.I.In.Source.faults _ c.args.limits.now _ _ (run_value c.args.run.now) _ _ _ _ _ _ _ _
    (done_before c.args.limits.now _ _ _ _ _ _ before c.in-Ok-run_sessions.ensures.done)
    (counts_of g.I.In.Source.faults f (λ own. own.input) (λ own. refl) _)
    (λ session below. task_sets _ (λ t. t.screens) tasks c.args.screens.items
    (length c.args.opened.items) session c.tasks_of-tasks.ensures.screens
    (omega (arith, below, length-map c.args.opened.items f))
    (omega (
      arith,
      c.requires.many,
      c.requires.sets,
      c.requires.most,
    )))
    c.finish_run.ensures
