-- the text is no journal, or it is one and short
use Rattle.std.proofs.Common.{arith, inr, List, ℕ, map, subst, sym}
use Rattle.journal_check.proofs.Kept.{kept}
use Rattle.std.proofs.lemmas.List.{length-map}
use Rattle.limit_table.specs.Trees.{halt_tree}
use Rattle.risk_journal.specs.SparseTrees.{expand_from}
use Rattle.risk_journal.specs.declared.acts.Act.{Act}
use Rattle.journal_check.specs.Faults.{IsRead}
use Rattle.journal_check.specs.RowFaults.{HasNoRowFault}
use Rattle.journal_check.proofs.KindOrder.{if_no_more, before_acts}
use Rattle.journal_check.proofs.TextRows.{rows_within}
use Rattle.journal_check.proofs.judging.check.Goals as goal

pub judge-requires-clause-enough : goal.judge-requires-clause-enough
judge-requires-clause-enough g c = record {
  few = c.requires.few;
  screens = omega (arith, c.requires.screens, length-map c.args.screens.items (λ own. own));
}

pub judge-requires-clause-read : goal.judge-requires-clause-read
judge-requires-clause-read g c = record {
  bytes = omega (
    arith,
    rows_within c.args.journal.now (kept c.in-Ok.told.acts.items)
        (expand_from 0 c.in-Ok.told.trees.items) c.in-Ok.ensures.read,
  );
  sound = c.in-Ok.ensures.read.sound;
}

pub returns-in-Ok-clause-answer : goal.returns-in-Ok-clause-answer
returns-in-Ok-clause-answer g c =
    let said = c.judge.ensures.answer in
    let read : IsRead c.args.journal.now (kept c.in-Ok.told.acts.items)
    (expand_from 0 c.in-Ok.told.trees.items) = record {
      few = omega arith;
      journal = c.in-Ok.ensures.read;
    } in record {
      yes = λ yes are_told. record {
        acts = kept c.in-Ok.told.acts.items;
        lines = expand_from 0 c.in-Ok.told.trees.items;
        read = read;
        none = said.yes yes are_told c.args.journal.now;
      };
      worth = λ yes are_told. record {
        acts = kept c.in-Ok.told.acts.items;
        lines = expand_from 0 c.in-Ok.told.trees.items;
        read = read;
        worth = said.worth yes are_told c.args.journal.now;
      };
      no = if_no_more _ _ c.judge.result.answer
          (λ fault first need. inr (record {
            acts = kept c.in-Ok.told.acts.items;
            lines = expand_from 0 c.in-Ok.told.trees.items;
            read = read;
            first = first need c.args.journal.now;
          }))
          said.no;
    }

pub returns-in-Ok-clause-read_fault : goal.returns-in-Ok-clause-read_fault
returns-in-Ok-clause-read_fault g c = λ is.
    let failed = c.judge.ensures.read_fault is in
    let acts : List (List Act) = kept c.in-Ok.told.acts.items in
    let lines = expand_from 0 c.in-Ok.told.trees.items in
    record {
      acts = acts;
      lines = lines;
      read = record { few = omega arith; journal = c.in-Ok.ensures.read };
      none = before_acts c.args.limits.now c.args.journal.now
          (map g.S.Source.left c.args.sources.items) _ acts lines
          (subst (λ (n : ℕ). HasNoRowFault n (halt_tree c.args.limits.now) acts lines)
          (sym (length-map c.args.sources.items g.S.Source.left)) failed.rows);
      behind = failed.behind;
    }
