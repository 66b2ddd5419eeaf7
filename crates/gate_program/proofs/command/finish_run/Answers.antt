use Rattle.std.proofs.Common.{map, ◌∙◌, arith}
use Rattle.std.proofs.lemmas.List.{length-map}
use Rattle.limit_table.proofs.Held.{held_accounts, held_symbols}
use Rattle.gate_files.specs.CommandOf.{run_value}
use Rattle.gate_program.proofs.Finished.{kept}
use Rattle.gate_program.proofs.PlacedDone.{all_few, as_many}
use Rattle.gate_program.proofs.command.finish_run.Goals as goal

pub journal_after-requires-clause-ran : goal.journal_after-requires-clause-ran
journal_after-requires-clause-ran g c κs within = (c.args.limits.now, c.requires.ran)

pub finish-requires-clause-acts : goal.finish-requires-clause-acts
finish-requires-clause-acts g c κs within =
    all_few c.in-Ok.journal.acts.items (map (λ own. own.items) c.args.ended.acts.items)
    c.in-Ok.ensures.acts c.requires.few

pub finish-requires-clause-legal : goal.finish-requires-clause-legal
finish-requires-clause-legal g c κs within =
    c.in-Ok.ensures.legal c.args.limits.now c.requires.ran

pub finish-requires-clause-few_trees : goal.finish-requires-clause-few_trees
finish-requires-clause-few_trees g c κs within =
    let limits = c.args.limits.now in
    let lines = c.in-Ok.journal.lines.items in
    let legal = c.in-Ok.ensures.legal limits c.requires.ran in
    omega (
      arith,
      legal.count,
      length-map lines (λ own. own.items),
      held_accounts limits c.stand_in_a_file.ensures,
      held_symbols limits c.stand_in_a_file.ensures,
    )

pub finish-requires-clause-act_count : goal.finish-requires-clause-act_count
finish-requires-clause-act_count g c κs within =
    as_many c.in-Ok.journal.acts.items c.args.ended.acts.items c.in-Ok.ensures.acts
    ∙ c.requires.act_count

pub returns-in-Ok : goal.returns-in-Ok
returns-in-Ok g c =
    kept _ c.args.limits.now (run_value c.args.run.now) _ _ _ _ _ _ _ _ _ c.in-Ok.ensures.acts
    (c.in-Ok.ensures.legal c.args.limits.now c.requires.ran) c.finish.ensures
