use Rattle.std.proofs.Common.{◌≡◌, ℕ, refl, length, map, ap, sym, ◌∙◌, subst, arith}
use Rattle.std.proofs.lemmas.List.{length-map}
use Rattle.f_array.proofs.NewPasses.{length-new_passes}
use Rattle.gate_files.specs.CommandOf.{run_value}
use Rattle.gate_files.specs.Objects.{objects_of, EachOwn}
use Rattle.session_tasks.specs.Tasks.{HasRoom}
use Rattle.session_tasks.proofs.EndsAlike.{counts_of}
use Rattle.session_tasks.proofs.Owned.{own_after}
use Rattle.session_tasks.proofs.TasksBack.{done_before, mapped_twice}
use Rattle.cross_guard.specs.Told.{with_places}
use Rattle.cross_command.specs.Forest.{IsOpened}
use Rattle.cross_command.specs.Rules.{follows, stops}
use Rattle.cross_command.proofs.Ended.{have_ended}
use Rattle.cross_command.proofs.command.cross_opened.Goals as goal

pub tasks_of-tasks-requires-clause-many : goal.tasks_of-tasks-requires-clause-many
tasks_of-tasks-requires-clause-many g c =
    ap length c.in-Ok.ensures.passes
    ∙ length-new_passes c.in-Ok.opening.forest.trees (length c.args.ready.job.run.sessions.now)
    ∙ sym c.requires.many

pub tasks_of-tasks-requires-clause-room : goal.tasks_of-tasks-requires-clause-room
tasks_of-tasks-requires-clause-room g c =
    subst (λ (n : ℕ). HasRoom n c.args.ready.room) (sym c.requires.many) c.requires.room

pub run_sessions-requires-clause-some : goal.run_sessions-requires-clause-some
run_sessions-requires-clause-some g c κs within = omega (
  arith,
  c.requires.job.some,
  c.requires.many,
  ap length c.tasks_of-tasks.ensures.opened,
  length-map c.tasks_of-tasks.result.waiting.items (λ t. t.opened),
)

pub run_sessions-requires-clause-opened : goal.run_sessions-requires-clause-opened
run_sessions-requires-clause-opened g c κs within =
    let as_many : length c.args.ready.job.run.sessions.now
    ≡ length c.tasks_of-tasks.result.waiting.items = omega (
      arith,
      c.requires.many,
      ap length c.tasks_of-tasks.ensures.opened,
      length-map c.tasks_of-tasks.result.waiting.items (λ t. t.opened),
    ) in
    subst (λ (n : ℕ). IsOpened c.args.ready.job.limits n c.in-Ok.opening.forest) as_many
    c.in-Ok.ensures.forest

pub finish_run-requires-clause-act_count : goal.finish_run-requires-clause-act_count
finish_run-requires-clause-act_count g c κs within =
    let f = objects_of g.D.In.Source.left g.D.In.Source.name g.D.In.Source.faults g.D.Out.Sink.held
    g.D.Out.Sink.name g.D.Out.Sink.faults in
    let acts = c.in-Ok-run_sessions.ended.acts.items in
    let none : ℕ → ℕ → ℕ = λ tree stamp. 0 in
    let done = c.in-Ok-run_sessions.ensures.done none in
    let tasks = c.tasks_of-tasks.result.waiting.items in
    omega (
      arith,
      done.act_count,
      length-map (map (λ own. own.items) acts) (with_places none),
      length-map acts (λ own. own.items),
      length-map tasks (λ t. f t.opened),
      c.requires.many,
      ap length c.tasks_of-tasks.ensures.opened,
      length-map tasks (λ t. t.opened),
    )

pub finish_run-requires-clause-object_count : goal.finish_run-requires-clause-object_count
finish_run-requires-clause-object_count g c κs within =
    let f = objects_of g.D.In.Source.left g.D.In.Source.name g.D.In.Source.faults g.D.Out.Sink.held
    g.D.Out.Sink.name g.D.Out.Sink.faults in
    let none : ℕ → ℕ → ℕ = λ tree stamp. 0 in
    let done = c.in-Ok-run_sessions.ensures.done none in
    let tasks = c.tasks_of-tasks.result.waiting.items in
    omega (
      arith,
      done.object_count,
      length-map c.in-Ok-run_sessions.ended.opened.items f,
      length-map tasks (λ t. f t.opened),
      c.requires.many,
      ap length c.tasks_of-tasks.ensures.opened,
      length-map tasks (λ t. t.opened),
    )

pub finish_run-requires-clause-own : goal.finish_run-requires-clause-own
finish_run-requires-clause-own g c κs within =
    let f = objects_of g.D.In.Source.left g.D.In.Source.name g.D.In.Source.faults g.D.Out.Sink.held
    g.D.Out.Sink.name g.D.Out.Sink.faults in
    let limits = c.args.ready.job.limits in
    let none : ℕ → ℕ → ℕ = λ tree stamp. 0 in
    own_after (follows limits) (stops limits) (run_value c.args.ready.job.run) _ _ _ _ _
    (c.in-Ok-run_sessions.ensures.done none)
    (subst (EachOwn (run_value c.args.ready.job.run) _)
    (sym (ap (map f) c.tasks_of-tasks.ensures.opened)
    ∙ mapped_twice f (λ t. t.opened) c.tasks_of-tasks.result.waiting.items) c.requires.own)

pub close_sessions-requires-in-Err-clause-own : goal.close_sessions-requires-in-Err-clause-own
close_sessions-requires-in-Err-clause-own g c κs within =
    let f = objects_of g.D.In.Source.left g.D.In.Source.name g.D.In.Source.faults g.D.Out.Sink.held
    g.D.Out.Sink.name g.D.Out.Sink.faults in
    subst (EachOwn (run_value c.args.ready.job.run) _)
    (ap (map f) (sym (c.in-Err.ensures.err ∙ c.tasks_of-tasks.ensures.opened))) c.requires.own

pub returns-in-Ok-run_sessions : goal.returns-in-Ok-run_sessions
returns-in-Ok-run_sessions g c =
    let f = objects_of g.D.In.Source.left g.D.In.Source.name g.D.In.Source.faults g.D.Out.Sink.held
    g.D.Out.Sink.name g.D.Out.Sink.faults in
    let limits = c.args.ready.job.limits in
    let tasks = c.tasks_of-tasks.result.waiting.items in
    let before = sym (mapped_twice f (λ t. t.opened) tasks)
    ∙ ap (map f) c.tasks_of-tasks.ensures.opened in
    have_ended g.D.In.Source.faults limits (run_value c.args.ready.job.run) _ _ _ _ _ _ _ _
    (λ place. done_before (follows limits) (stops limits) _ _ _ _ _ before
    (c.in-Ok-run_sessions.ensures.done place))
    (counts_of g.D.In.Source.faults f (λ own. own.input) (λ own. refl) _)
    c.finish_run.ensures
