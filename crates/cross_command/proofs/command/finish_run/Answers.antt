use Rattle.std.proofs.Common.{ap, arith}
use Rattle.std.proofs.lemmas.List.{length-map}
use Rattle.limit_table.proofs.Held.{held_symbols}
use Rattle.gate_files.specs.CommandOf.{run_value}
use Rattle.cross_command.proofs.Ended.{few_lines, has_stood, placed_many}
use Rattle.cross_command.proofs.command.finish_run.Goals as goal

pub journal_after-requires-clause-called : goal.journal_after-requires-clause-called
journal_after-requires-clause-called g c κs within = (c.args.job.now.limits, c.requires.called)

pub keep-requires-clause-few_trees : goal.keep-requires-clause-few_trees
keep-requires-clause-few_trees g c κs within =
    let lines = c.in-Ok.journal.lines.items in
    omega (
      arith,
      few_lines c.args.job.now.limits _ _ _
          (c.in-Ok.ensures c.args.job.now.limits c.requires.called)
          (held_symbols c.args.job.now.limits c.stand_in_a_file.ensures),
      length-map lines (λ own. own.items),
    )

pub keep-requires-clause-act_count : goal.keep-requires-clause-act_count
keep-requires-clause-act_count g c κs within = omega (
  arith,
  placed_many c.args.job.now.limits _ _ _
      (c.in-Ok.ensures c.args.job.now.limits c.requires.called),
  length-map c.in-Ok.journal.acts.items (λ own. own.items),
  length-map c.args.ran.ended.acts.items (λ own. own.items),
  c.requires.act_count,
)

pub returns-in-Ok-keep : goal.returns-in-Ok-keep
returns-in-Ok-keep g c =
    has_stood c.args.job.now.limits (run_value c.args.job.now.run) _ _ _ _
    c.args.ran.ended.ends.items _ _ _ _ _ _
    (c.in-Ok.ensures c.args.job.now.limits c.requires.called) c.in-Ok-keep.ensures.kept
    (ap (λ ends. ends.items) c.in-Ok-keep.ensures.ends) c.answer_after.ensures
