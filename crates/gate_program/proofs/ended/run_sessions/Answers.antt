use Rattle.std.proofs.Common.{◌≡◌, ◌^◌, ◌<◌, ℕ, length, map, ap, sym, ◌∙◌, subst, arith, List}
use Rattle.std.proofs.lemmas.List.{length-map}
use Rattle.std.specs.List.{AllByRecursion}
use Rattle.risk_journal.specs.declared.acts.Act.{Act}
use Rattle.risk_journal.specs.ActLists.{calls_below, calls_at}
use Rattle.limit_table.specs.Trees.{halt_tree}
use Rattle.node_rule.specs.declared.view.Plan.{Plan}
use Rattle.f_array.specs.Records.{AreAllOf}
use Rattle.gate_program.specs.Forests.{AreOpened}
use Rattle.gate_files.specs.Objects.{objects_of}
use Rattle.gate_program.specs.Room.{HasSpare}
use Rattle.limit_table.proofs.Quotas.{quota_in_range}
use Rattle.gate_program.proofs.NewTasks.{all_ready}
use Rattle.gate_program.proofs.TasksBack.{zip_long, all_back, calls_back, each_back, have_done}
use Rattle.gate_program.proofs.TasksBack.{mapped_twice}
use Rattle.gate_program.proofs.ended.run_sessions.Goals as goal

pub run_tasks-requires-clause-ready : goal.run_tasks-requires-clause-ready
run_tasks-requires-clause-ready g c κs within =
    all_ready c.args.limits.now c.args.forests.now.sums c.args.forests.now.halts
    (length c.args.tasks.items)
    (quota_in_range c.args.limits.now c.stand_in_a_file.ensures).0
    c.requires.forests.sums c.requires.forests.halts
    (λ t. t.sum) (λ t. t.halt) c.args.tasks.items (length c.args.tasks.items) c.requires.sums
    c.requires.halts

pub taken_apart-requires-clause-room : goal.taken_apart-requires-clause-room
taken_apart-requires-clause-room g c =
    subst (λ (n : ℕ). HasSpare n c.args.room)
    (sym (zip_long _ c.args.tasks.items c.in-Ok.done.items c.in-Ok.ensures.ok)) c.requires.room

pub returns-in-Ok-clause-ran : goal.returns-in-Ok-clause-ran
returns-in-Ok-clause-ran g c =
    let limits = c.args.limits.now in
    let tasks = c.args.tasks.items in
    let done = c.in-Ok.done.items in
    let zipped = c.in-Ok.ensures.ok in
    let apart = c.taken_apart.ensures in
    let acts : List (List Act) = map (λ own. own.items) c.taken_apart.result.acts.items in
    let count : length acts ≡ length tasks =
    ap length apart.acts ∙ length-map done (λ d. d.acts.items) ∙ zip_long _ tasks done zipped in
    record {
      some = omega (arith, count, c.requires.some);
      opened = subst (λ (n : ℕ). AreOpened limits n c.args.forests.now) (sym count)
          c.requires.forests;
      back = record {
        sums = subst (AreAllOf c.args.forests.now.sums) (sym apart.sums)
            (all_back _ (λ t. t.sum) (λ d. d.sum) (λ t d ran. ran.0.sum_same) tasks done zipped
            c.args.forests.now.sums (length tasks) c.requires.sums
            (ap (λ (p : Plan). p.sessions) c.requires.forests.sums.plan));
        halts = subst (AreAllOf c.args.forests.now.halts) (sym apart.halts)
            (all_back _ (λ t. t.halt) (λ d. d.halt) (λ t d ran. ran.0.halt_same) tasks done zipped
            c.args.forests.now.halts (length tasks) c.requires.halts
            (ap (λ (p : Plan). p.sessions) c.requires.forests.halts.plan));
      };
      called = record {
        sums = ap (map (λ pass. pass.track.calls)) apart.sums
            ∙ calls_back _ (λ d. d.sum) (λ d. d.acts.items) (calls_below (halt_tree limits))
            (λ t d ran. ran.0.sum_calls) tasks done zipped
            ∙ ap (map (calls_below (halt_tree limits))) (sym apart.acts);
        halts = ap (map (λ pass. pass.track.calls)) apart.halts
            ∙ calls_back _ (λ d. d.halt) (λ d. d.acts.items) (calls_at (halt_tree limits))
            (λ t d ran. ran.0.halt_calls) tasks done zipped
            ∙ ap (map (calls_at (halt_tree limits))) (sym apart.acts);
      };
    }

pub returns-in-Ok-clause-few : goal.returns-in-Ok-clause-few
returns-in-Ok-clause-few g c =
    subst (AllByRecursion (λ own. length own < 2 ^ 32)) (sym c.taken_apart.ensures.acts)
    (each_back _ (λ own. length own < 2 ^ 32) (λ d. d.acts.items) (λ t d ran. ran.1)
    c.args.tasks.items c.in-Ok.done.items c.in-Ok.ensures.ok)

pub returns-in-Ok-clause-done : goal.returns-in-Ok-clause-done
returns-in-Ok-clause-done g c =
    let f = objects_of g.S.Source.left g.S.Source.name g.S.Source.faults g.K.Sink.held
    g.K.Sink.name g.K.Sink.faults in
    have_done _ c.args.limits.now _ (λ t. f t.opened) (λ d. f d.opened) (λ d. d.acts.items)
    (λ d. d.end) (λ t d ran. ran.2) c.args.tasks.items c.in-Ok.done.items c.in-Ok.ensures.ok _ _ _
    (ap (map f) c.taken_apart.ensures.opened
    ∙ mapped_twice f (λ d. d.opened) c.in-Ok.done.items)
    c.taken_apart.ensures.acts c.taken_apart.ensures.ends

pub returns-in-Err-clause-err : goal.returns-in-Err-clause-err
returns-in-Err-clause-err g c =
    c.opened_of.ensures ∙ ap (map (λ t. t.opened)) c.in-Err.ensures.err
