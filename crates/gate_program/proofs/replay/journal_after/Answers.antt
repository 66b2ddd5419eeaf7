use Rattle.std.proofs.Common.{ℕ, map, subst}
use Rattle.std.proofs.lemmas.List.{length-map}
use Rattle.limit_table.specs.Trees.{halt_tree}
use Rattle.gate_program.specs.Totals.{HaveTotals}
use Rattle.gate_program.proofs.Histories.{are_legal_lines}
use Rattle.gate_program.proofs.Replays.{have_left}
use Rattle.gate_files.proofs.Results.{ok_more}
use Rattle.gate_program.proofs.replay.journal_after.Goals as goal

pub journal_of-requires-clause-left : goal.journal_of-requires-clause-left
journal_of-requires-clause-left g c κs within = (
  halt_tree c.requires.ran.0,
  have_left c.requires.ran.0 _ _ _ _ c.requires.ran.1
      c.in_ok-records.ensures,
)

pub returns-clause-legal : goal.returns-clause-legal
returns-clause-legal g c =
    ok_more c.journal_of.result _ _ c.journal_of.ensures.histories
    (λ journal told limits ran. are_legal_lines limits _ _
    (told (halt_tree limits) (have_left limits _ _ _ _ ran c.in_ok-records.ensures)))

pub returns-clause-totals : goal.returns-clause-totals
returns-clause-totals g c =
    ok_more c.journal_of.result _ _ c.journal_of.ensures.histories
    (λ journal told. subst (λ (n : ℕ). HaveTotals n (map (λ own. own.items) journal.lines.items))
    (length-map journal.acts.items (λ own. own.items))
    (told (halt_tree c.requires.ran.0) (have_left c.requires.ran.0 _ _ _ _ c.requires.ran.1
    c.in_ok-records.ensures)).totals)
