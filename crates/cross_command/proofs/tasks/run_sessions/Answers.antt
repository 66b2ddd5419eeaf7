use Rattle.std.proofs.Common.{◌≡◌, ◌^◌, ◌<◌, ℕ, length, map, ap, sym, ◌∙◌, subst, arith, List}
use Rattle.std.proofs.lemmas.List.{length-map}
use Rattle.std.specs.List.{AllByRecursion}
use Rattle.risk_journal.specs.declared.acts.Act.{Act}
use Rattle.risk_journal.specs.ActLists.{calls_of}
use Rattle.node_rule.specs.declared.view.Plan.{Plan}
use Rattle.f_array.specs.Records.{AreAllOf}
use Rattle.gate_files.specs.Objects.{objects_of}
use Rattle.gate_files.proofs.Results.{ok_more}
use Rattle.session_tasks.proofs.TasksBack.{all_back, calls_back, each_back, have_done, mapped_twice}
use Rattle.session_tasks.proofs.TasksBack.{zip_long}
use Rattle.cross_guard.specs.Told.{with_places}
use Rattle.cross_command.specs.Forest.{IsOpened}
use Rattle.cross_command.specs.Rules.{follows, stops}
use Rattle.cross_command.proofs.ReadyTasks.{all_ready}
use Rattle.cross_command.proofs.tasks.run_sessions.Goals as goal

pub run_all-requires-clause-ready : goal.run_all-requires-clause-ready
run_all-requires-clause-ready g c κs within =
    all_ready c.args.limits.now c.args.forest.now (λ t. t.own) c.args.tasks.waiting.items
    (length c.args.tasks.waiting.items) c.requires.opened c.requires.passes

pub returns-clause-called : goal.returns-clause-called
returns-clause-called g c = ok_more c.run_all.result _ _ c.run_all.ensures.ok (λ ended ran.
    let tasks = c.args.tasks.waiting.items in
    let (done, zipped, apart) = ran in
    let acts : List (List Act) = map (λ own. own.items) ended.acts.items in
    let count : length acts ≡ length tasks =
    ap length apart.acts ∙ length-map done (λ d. d.acts.items) ∙ zip_long _ tasks done zipped in
    record {
      some = omega (arith, count, c.requires.some);
      opened = subst (λ (n : ℕ). IsOpened c.args.limits.now n c.args.forest.now) (sym count)
          c.requires.opened;
      back = subst (AreAllOf c.args.forest.now.trees) (sym apart.passes)
          (all_back _ (λ t. t.own) (λ d. d.pass) (λ t d one. one.1.0.same) tasks done zipped
          c.args.forest.now.trees (length tasks) c.requires.passes
          (ap (λ (p : Plan). p.sessions) c.requires.opened.trees.plan));
      called = ap (map (λ pass. pass.track.calls)) apart.passes
          ∙ calls_back _ (λ d. d.pass) (λ d. d.acts.items) calls_of (λ t d one. one.1.0.calls)
          tasks done zipped
          ∙ ap (map calls_of) (sym apart.acts);
    })

pub returns-clause-few : goal.returns-clause-few
returns-clause-few g c = ok_more c.run_all.result _ _ c.run_all.ensures.ok (λ ended ran.
    let (done, zipped, apart) = ran in
    subst (AllByRecursion (λ own. length own < 2 ^ 32)) (sym apart.acts)
    (each_back _ (λ own. length own < 2 ^ 32) (λ d. d.acts.items) (λ t d one. one.1.1)
    c.args.tasks.waiting.items done zipped))

pub returns-clause-done : goal.returns-clause-done
returns-clause-done g c = ok_more c.run_all.result _ _ c.run_all.ensures.ok (λ ended ran place.
    let f = objects_of g.S.Source.left g.S.Source.name g.S.Source.faults g.K.Sink.held
    g.K.Sink.name g.K.Sink.faults in
    let (done, zipped, apart) = ran in
    have_done _ (follows c.args.limits.now) (stops c.args.limits.now) (λ t. f t.opened)
    (λ d. f d.opened) (λ d. with_places place d.acts.items) (λ d. d.end)
    c.args.tasks.waiting.items done (λ session t d at one. one.1.2 place) zipped _ _ _
    (ap (map f) apart.opened ∙ mapped_twice f (λ d. d.opened) done)
    (ap (map (with_places place)) apart.acts
    ∙ mapped_twice (with_places place) (λ d. d.acts.items) done)
    apart.ends)
