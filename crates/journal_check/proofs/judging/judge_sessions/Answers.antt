-- what the sessions say, and then the trees
use Rattle.std.proofs.Common.{◌∙◌, List, ℕ, sym, subst, length, map, arith, All}
use Rattle.std.proofs.lemmas.List.{length-map}
use Rattle.fold_law.specs.declared.limits.TheConstants.{LEAF}
use Rattle.limit_table.specs.Trees.{halt_tree}
use Rattle.risk_journal.specs.declared.acts.Act.{Act}
use Rattle.journal_check.specs.Answers.{AreTold}
use Rattle.journal_check.specs.FarRows.{IsFarRow}
use Rattle.journal_check.specs.RowFaults.{HasNoRowFault}
use Rattle.journal_check.specs.SameActs.{IsInTrees}
use Rattle.journal_check.specs.Sessions.{AreAlike, IsFirstApart, FailsBehind}
use Rattle.journal_check.specs.Tables.{AreCapped}
use Rattle.journal_check.specs.TreeFaults.{AreRightAll, IsTreeFault}
use Rattle.journal_check.proofs.InTrees.{all_in_trees}
use Rattle.journal_check.proofs.Kept.{kept, kept_count}
use Rattle.journal_check.proofs.KindOrder.{acts_first, trees_first, tree_kind, no_kind, if_no_more, no_yes}
use Rattle.journal_check.proofs.WorthOf.{worth_of}
use Rattle.journal_check.proofs.judging.judge_sessions.Goals as goal

pub compare_all-done-requires-clause-trees : goal.compare_all-done-requires-clause-trees
compare_all-done-requires-clause-trees g c =
    subst (λ a. All (λ (own : List Act). All (IsInTrees (halt_tree c.args.limits.now)) own) (kept a))
    (sym c.deref.ensures.value)
    (all_in_trees (halt_tree c.args.limits.now) (kept c.args.journal.now.acts.items)
    (kept c.args.journal.now.lines.items) c.requires.rows.no_far)

pub judge_trees-answer-requires-clause-capped : goal.judge_trees-answer-requires-clause-capped
judge_trees-answer-requires-clause-capped g c =
    subst (λ a. AreCapped LEAF (kept a)) c.deref.ensures.value (c.compare_all-done.ensures.capped c.in-Alike.is)

pub judge_trees-answer-requires-clause-near : goal.judge_trees-answer-requires-clause-near
judge_trees-answer-requires-clause-near g c =
    subst (λ (t : ℕ). (row : ℕ) → ¬ IsFarRow t (kept c.args.journal.now.acts.items)
    (kept c.args.journal.now.lines.items) row) (sym c.halt_tree.ensures.tree) c.requires.rows.no_far

pub returns-in-Alike-clause-answer : goal.returns-in-Alike-clause-answer
returns-in-Alike-clause-answer g c =
    let acts : List (List Act) = kept c.args.journal.now.acts.items in
    let lines = kept c.args.journal.now.lines.items in
    let left = map g.S.Source.left c.args.sources.items in
    let sets = map g.K.SessionScreens.meaning c.args.screens.items in
    let rows = subst (λ (n : ℕ). HasNoRowFault n (halt_tree c.args.limits.now) acts lines)
    (sym (length-map c.args.sources.items g.S.Source.left)) c.requires.rows in
    let alike = subst (λ (n : ℕ). AreAlike c.args.limits.now left sets acts n)
    (sym (kept_count c.args.journal.now.acts.items))
    (subst (λ a. AreAlike c.args.limits.now left sets (kept a) (length a))
    c.deref.ensures.value (c.compare_all-done.ensures.alike c.in-Alike.is)) in
    rw c.answered.ensures.answer
    (record {
      yes = λ yes are_told text.
          no_kind c.args.limits.now text left sets acts lines rows are_told alike
          (subst (λ (t : ℕ). AreRightAll t acts lines) c.halt_tree.ensures.tree
          (c.judge_trees-answer.ensures.yes yes));
      worth = λ yes are_told text.
          worth_of c.args.limits.now text left sets acts lines rows
          (subst (λ (t : ℕ). AreRightAll t acts lines) c.halt_tree.ensures.tree
          (c.judge_trees-answer.ensures.yes yes)) are_told alike;
      no = if_no_more (IsTreeFault c.halt_tree.result acts lines) _ c.judge_trees-answer.result
          (λ fault found need text.
          let at : IsTreeFault (halt_tree c.args.limits.now) acts lines fault =
          subst (λ (t : ℕ). IsTreeFault t acts lines fault) c.halt_tree.ensures.tree found in
          let are_told : AreTold left = need (tree_kind (halt_tree c.args.limits.now) acts lines fault at) in
          trees_first c.args.limits.now text left sets acts lines rows are_told alike fault at)
          c.judge_trees-answer.ensures.no;
    })

pub returns-in-Alike-clause-read_fault : goal.returns-in-Alike-clause-read_fault
returns-in-Alike-clause-read_fault g c = λ is.
    absurd (c.judge_trees-answer.ensures.no_fault (sym c.answered.ensures.answer ∙ is))

pub returns-in-Alike-clause-back : goal.returns-in-Alike-clause-back
returns-in-Alike-clause-back g c =
    rw c.answered.ensures.sources c.compare_all-done.ensures.back

pub returns-in-Apart-clause-answer : goal.returns-in-Apart-clause-answer
returns-in-Apart-clause-answer g c =
    let acts : List (List Act) = kept c.args.journal.now.acts.items in
    let lines = kept c.args.journal.now.lines.items in
    let left = map g.S.Source.left c.args.sources.items in
    let sets = map g.K.SessionScreens.meaning c.args.screens.items in
    let rows = subst (λ (n : ℕ). HasNoRowFault n (halt_tree c.args.limits.now) acts lines)
    (sym (length-map c.args.sources.items g.S.Source.left)) c.requires.rows in
    let first = subst (λ a. IsFirstApart c.args.limits.now left sets (kept a) c.in-Apart.row)
    c.deref.ensures.value (c.compare_all-done.ensures.apart c.in-Apart.row c.in-Apart.is) in
    rw c.answered-in-Apart.ensures.answer
    (record {
      yes = λ is. absurd (no_yes _ is);
      worth = λ is. absurd (no_yes _ is);
      no = λ need text. acts_first c.args.limits.now text left sets acts lines rows
          c.in-Apart.row (need (omega arith)) first;
    })

pub returns-in-Apart-clause-back : goal.returns-in-Apart-clause-back
returns-in-Apart-clause-back g c =
    rw c.answered-in-Apart.ensures.sources c.compare_all-done.ensures.back

pub returns-in-ReadFault-clause-read_fault : goal.returns-in-ReadFault-clause-read_fault
returns-in-ReadFault-clause-read_fault g c = λ is.
    rw c.answered-in-ReadFault.ensures.sources
    (subst (λ a. FailsBehind g.S.Source.left g.S.Source.faults c.args.limits.now
    (map g.K.SessionScreens.meaning c.args.screens.items) (kept a) c.args.sources.items
    c.compare_all-done.result.sources.items)
    c.deref.ensures.value (c.compare_all-done.ensures.read_fault c.in-ReadFault.is))
