-- the reads of one tree more
use Rattle.std.proofs.Common.{◌≡◌, ◌<◌, ◌≤◌, ◌+◌, ◌∙◌, List, ℕ, sym, subst, ap, length, max, arith, All}
use Rattle.std.proofs.Common.{get_or, cond}
use Rattle.std.specs.Prelude.{Option}
use Rattle.std.proofs.lemmas.Option.{slice_get-get_or}
use Rattle.fold_law.specs.Sum.{sum_of}
use Rattle.fold_law.specs.Whole.{whole_of}
use Rattle.fold_law.specs.declared.limits.TheConstants.{LEAF}
use Rattle.risk_board.specs.declared.hand.Line.{Line}
use Rattle.risk_board.specs.History.{components_of}
use Rattle.risk_journal.specs.declared.acts.Act.{Act}
use Rattle.journal_check.specs.LineFaults.{EndsBefore}
use Rattle.journal_check.specs.ReadFaults.{IsFirstSoFar}
use Rattle.journal_check.specs.ReadRows.{ReadRow, tree_reads}
use Rattle.journal_check.specs.Trees.{tree_lines, fold_in}
use Rattle.journal_check.specs.declared.tree_acts.TreeActs.{TreeActs}
use Rattle.journal_check.proofs.Filled.{kept_tree}
use Rattle.journal_check.proofs.Kept.{kept, kept_count}
use Rattle.journal_check.proofs.LineBounds.{lines_below, lines_capped}
use Rattle.journal_check.proofs.ReadsRise.{reads_below}
use Rattle.journal_check.proofs.ReadTrees.{found_read_as, last_test, so_far_more, found_if, found_none}
use Rattle.journal_check.proofs.tree_reads.first_read_row.Goals as goal

lines_are : (c : goal.After-deref-in-loop-tree)
    → c.lines_in-lines.result.now ≡ tree_lines c.loop-tree.tree (kept c.args.journal.now.lines.items)
lines_are c =
    c.lines_in-lines.ensures ∙ ap (λ l. tree_lines c.loop-tree.tree (kept l)) c.deref.ensures.value

reads_are : (c : goal.After-deref-in-loop-tree)
    → c.deref-in-loop-tree.result.now ≡ tree_reads c.loop-tree.tree (kept c.args.journal.now.acts.items)
reads_are c =
    let acts : List (List Act) = kept c.args.journal.now.acts.items in
    let own : TreeActs = get_or c.args.trees.now c.loop-tree.tree c.index-trees-tree.result in
    let by = kept_tree c.args.trees.now acts c.loop-tree.tree own c.requires.trees c.loop-tree-test.true
    (ap (get_or c.args.trees.now c.loop-tree.tree) c.index-trees-tree.is) in
    c.deref-in-loop-tree.ensures.value ∙ by.reads_are

enough : (c : goal.After-deref-in-loop-tree)
    → length (kept c.args.journal.now.acts.items) ≤ c.components-components.result
enough c =
    let ok = c.args.journal.now.acts.ok in
    omega (
      arith,
      c.components-components.ensures.least,
      c.len.ensures,
      kept_count c.args.journal.now.acts.items,
    )

pub first_in-requires-clause-own_lines : goal.first_in-requires-clause-own_lines
first_in-requires-clause-own_lines c =
    subst (λ (l : List Line). All (λ line. line.session < c.components-components.result) l)
    (sym (lines_are c))
    (lines_below (kept c.args.journal.now.acts.items) (kept c.args.journal.now.lines.items)
    c.loop-tree.tree (c.requires.right c.loop-tree.tree) c.components-components.result (enough c))

pub first_in-requires-clause-capped : goal.first_in-requires-clause-capped
first_in-requires-clause-capped c =
    subst (λ (l : List Line). All (λ line. line.value ≤ LEAF) l) (sym (lines_are c))
    (lines_capped (kept c.args.journal.now.acts.items) (kept c.args.journal.now.lines.items)
    c.loop-tree.tree (c.requires.right c.loop-tree.tree) LEAF c.requires.capped)

pub first_in-requires-clause-own_reads : goal.first_in-requires-clause-own_reads
first_in-requires-clause-own_reads c =
    let acts : List (List Act) = kept c.args.journal.now.acts.items in
    subst (λ (r : List ReadRow). All (λ read. read.session < c.components-components.result) r)
    (sym (reads_are c))
    (λ index d less. omega (
      arith,
      enough c,
      reads_below c.loop-tree.tree acts index (get_or (tree_reads c.loop-tree.tree acts) index d)
          (slice_get-get_or (tree_reads c.loop-tree.tree acts) index d less),
    ))

pub loop-tree-preserved : goal.loop-tree-preserved
loop-tree-preserved c = λ last is.
    let acts : List (List Act) = kept c.args.journal.now.acts.items in
    let lines : List (List Line) = kept c.args.journal.now.lines.items in
    let tree = c.loop-tree.tree in
    let own : TreeActs = get_or c.args.trees.now tree c.index-trees-tree.result in
    let by = kept_tree c.args.trees.now acts tree own c.requires.trees c.loop-tree-test.true
    (ap (get_or c.args.trees.now tree) c.index-trees-tree.is) in
    let ok = c.args.journal.now.acts.ok in
    let count : c.len.result ≡ length acts =
    omega (arith, c.len.ensures, kept_count c.args.journal.now.acts.items) in
    subst (λ (f : Option ℕ). IsFirstSoFar last acts lines (tree + 1) f) (sym c.earlier-first.ensures)
    (so_far_more last acts lines tree c.loop-tree.first c.in_ok-own.own (c.loop-tree.invariant last is)
    (found_read_as _ (fold_in last tree) _ (components_of (length acts)) _ (tree_lines tree lines) _
    (tree_reads tree acts) c.in_ok-own.own
    (ap (λ b. cond b (whole_of max 0) (whole_of sum_of 0))
    (last_test tree last (length c.args.trees.now) is))
    (c.components-components.ensures.value ∙ ap components_of count)
    (c.lines_in-lines.ensures ∙ ap (λ l. tree_lines tree (kept l)) c.deref.ensures.value)
    (c.deref-in-loop-tree.ensures.value ∙ by.reads_are)
    c.in_ok-own.ensures))

pub returns-clause-found : goal.returns-clause-found
returns-clause-found c = λ last is.
    let acts : List (List Act) = kept c.args.journal.now.acts.items in
    let lines : List (List Line) = kept c.args.journal.now.lines.items in
    let end : length c.args.trees.now ≡ c.loop-tree.tree =
    omega (arith, c.loop-tree-test.false, c.loop-tree.auto.tree-end) in
    found_if last acts lines c.loop-tree.tree c.loop-tree.first (c.loop-tree.invariant last is)
    (subst (λ (n : ℕ). EndsBefore n acts lines) end c.requires.near)

pub returns-clause-none : goal.returns-clause-none
returns-clause-none c = λ last is none.
    let acts : List (List Act) = kept c.args.journal.now.acts.items in
    let lines : List (List Line) = kept c.args.journal.now.lines.items in
    let end : length c.args.trees.now ≡ c.loop-tree.tree =
    omega (arith, c.loop-tree-test.false, c.loop-tree.auto.tree-end) in
    found_none last acts lines c.loop-tree.tree
    (subst (λ (f : Option ℕ). IsFirstSoFar last acts lines c.loop-tree.tree f) none
    (c.loop-tree.invariant last is))
    (subst (λ (n : ℕ). EndsBefore n acts lines) end c.requires.near)
