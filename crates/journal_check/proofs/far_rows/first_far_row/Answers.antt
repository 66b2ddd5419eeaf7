-- acts stand before lines
use Rattle.std.proofs.Common.{subst, ℕ}
use Rattle.risk_journal.specs.SparseTrees.{expand_from}
use Rattle.journal_check.specs.FarRows.{IsFarAct, IsFarLine, IsFarRow}
use Rattle.journal_check.specs.Firsts.{IsFirstRow}
use Rattle.journal_check.proofs.Cases.{if_some_more}
use Rattle.journal_check.proofs.FarLines.{act_is_first, line_is_first, none_at_all_far}
use Rattle.journal_check.proofs.Kept.{kept}
use Rattle.journal_check.proofs.far_rows.first_far_row.Goals as goal

pub returns-in-Some-clause-found : goal.returns-in-Some-clause-found
returns-in-Some-clause-found c =
    act_is_first c.args.last (kept c.args.told.now.acts.items) (expand_from 0 c.args.told.now.trees.items)
    c.in-Some.row
    (subst (λ a. IsFirstRow (IsFarAct c.args.last (kept a)) c.in-Some.row) c.deref.ensures.value
    c.in-Some.ensures.found)

pub returns-in-None-clause-found : goal.returns-in-None-clause-found
returns-in-None-clause-found c =
    let acts = kept c.args.told.now.acts.items in
    let lines = expand_from 0 c.args.told.now.trees.items in
    if_some_more (IsFirstRow (IsFarLine c.args.last acts lines))
    (IsFirstRow (IsFarRow c.args.last acts lines)) c.first_far_line.result
    (λ row. line_is_first c.args.last acts lines row
    (subst (λ a. (other : ℕ) → ¬ IsFarAct c.args.last (kept a) other) c.deref.ensures.value
    (c.first_act_row.ensures.none c.in-None.is)))
    c.first_far_line.ensures.found

pub returns-in-None-clause-none : goal.returns-in-None-clause-none
returns-in-None-clause-none c = λ none.
    none_at_all_far c.args.last (kept c.args.told.now.acts.items)
    (expand_from 0 c.args.told.now.trees.items)
    (subst (λ a. (row : ℕ) → ¬ IsFarAct c.args.last (kept a) row) c.deref.ensures.value
    (c.first_act_row.ensures.none c.in-None.is))
    (c.first_far_line.ensures.none none)
