-- the lines of one tree more
use Rattle.std.proofs.Common.{◌≡◌, ◌<◌, ◌+◌, ◌∙◌, [], List, ℕ, sym, subst, ap, refl, length, arith, inl, inr}
use Rattle.std.proofs.Common.{get_or, take}
use Rattle.std.proofs.lemmas.Bool.{true≢false}
use Rattle.std.proofs.lemmas.Option.{slice_get_within}
use Rattle.risk_board.specs.declared.hand.Line.{Line}
use Rattle.risk_journal.specs.declared.acts.Act.{Act}
use Rattle.journal_check.specs.Firsts.{IsFirstWrong}
use Rattle.journal_check.specs.LineFaults.{IsFoundOf, EndsBefore}
use Rattle.journal_check.specs.RightLines.{IsRightLine}
use Rattle.journal_check.specs.RowNumbers.{count_all}
use Rattle.journal_check.specs.Trees.{tree_posts, tree_lines}
use Rattle.journal_check.specs.declared.tree_acts.TreeActs.{TreeActs}
use Rattle.journal_check.proofs.Counts.{count_next, count_own}
use Rattle.journal_check.proofs.Filled.{kept_tree}
use Rattle.journal_check.proofs.Kept.{kept}
use Rattle.journal_check.proofs.LineRows.{found_as, first_line_of_all}
use Rattle.journal_check.proofs.LineRows.{right_more, all_more, lacks_only, right_trees}
use Rattle.journal_check.proofs.tree_lines.first_line_row.Goals as goal
use Rattle.journal_check.proofs.tree_lines.first_line_row.Goals.{in-Lacking, in-Right}

found : (c : goal.In-Wrong)
    → IsFirstWrong (IsRightLine (tree_posts c.loop-tree.tree (kept c.args.journal.now.acts.items))
    (tree_lines c.loop-tree.tree (kept c.args.journal.now.lines.items)))
    (tree_lines c.loop-tree.tree (kept c.args.journal.now.lines.items)) c.in-Wrong.place
found c =
    let acts : List (List Act) = kept c.args.journal.now.acts.items in
    let lines : List (List Line) = kept c.args.journal.now.lines.items in
    let own : TreeActs = get_or c.args.trees.now c.loop-tree.tree c.index-trees-tree.result in
    let by = kept_tree c.args.trees.now acts c.loop-tree.tree own c.requires.trees c.loop-tree-test.true
    (ap (get_or c.args.trees.now c.loop-tree.tree) c.index-trees-tree.is) in
    subst (IsFoundOf (tree_posts c.loop-tree.tree acts) (tree_lines c.loop-tree.tree lines)) c.in-Wrong.is
    (found_as (kept c.deref-in-loop-tree-2.result.now) (tree_posts c.loop-tree.tree acts)
    c.lines_in-own.result.now (tree_lines c.loop-tree.tree lines) c.in_ok-place.field-0
    (ap kept c.deref-in-loop-tree-2.ensures.value ∙ by.posts_are)
    (c.lines_in-own.ensures
    ∙ ap (λ l. tree_lines c.loop-tree.tree (kept l)) c.deref-in-loop-tree.ensures.value)
    c.in_ok-place.ensures)

inside : (c : goal.In-Wrong)
    → c.in-Wrong.place < length (tree_lines c.loop-tree.tree (kept c.args.journal.now.lines.items))
inside c =
    let first = found c in slice_get_within _ c.in-Wrong.place first.item first.at

pub overflow_cast-result : goal.overflow_cast-result
overflow_cast-result c =
    omega (arith, c.requires.rows, inside c, count_own (kept c.args.journal.now.lines.items) c.loop-tree.tree)

pub overflow_add-result : goal.overflow_add-result
overflow_add-result c =
    omega (
      arith,
      c.requires.rows,
      c.loop-tree.invariant.row,
      inside c,
      count_own (kept c.args.journal.now.lines.items) c.loop-tree.tree,
    )

pub returns-in-Wrong-clause-found : goal.returns-in-Wrong-clause-found
returns-in-Wrong-clause-found c =
    inl (first_line_of_all (kept c.args.journal.now.acts.items) (kept c.args.journal.now.lines.items)
    c.loop-tree.tree c.in-Wrong.place (c.loop-tree.row + c.in-Wrong.place) c.loop-tree.invariant.right
    (found c) (ap (λ n. n + c.in-Wrong.place) c.loop-tree.invariant.row))

joined : (c : goal.Joined-branch-2)
    → IsFoundOf (tree_posts c.loop-tree.tree (kept c.args.journal.now.acts.items))
    (tree_lines c.loop-tree.tree (kept c.args.journal.now.lines.items)) c.in_ok-place.field-0
joined c =
    let acts : List (List Act) = kept c.args.journal.now.acts.items in
    let lines : List (List Line) = kept c.args.journal.now.lines.items in
    let own : TreeActs = get_or c.args.trees.now c.loop-tree.tree c.index-trees-tree.result in
    let by = kept_tree c.args.trees.now acts c.loop-tree.tree own c.requires.trees c.loop-tree-test.true
    (ap (get_or c.args.trees.now c.loop-tree.tree) c.index-trees-tree.is) in
    found_as (kept c.deref-in-loop-tree-2.result.now) (tree_posts c.loop-tree.tree acts)
    c.lines_in-own.result.now (tree_lines c.loop-tree.tree lines) c.in_ok-place.field-0
    (ap kept c.deref-in-loop-tree-2.ensures.value ∙ by.posts_are)
    (c.lines_in-own.ensures
    ∙ ap (λ l. tree_lines c.loop-tree.tree (kept l)) c.deref-in-loop-tree.ensures.value)
    c.in_ok-place.ensures

long : (c : goal.Joined-branch-2)
    → length c.lines_in-own.result.now
    ≡ length (get_or (kept c.args.journal.now.lines.items) c.loop-tree.tree [])
long c =
    ap length (c.lines_in-own.ensures
    ∙ ap (λ l. tree_lines c.loop-tree.tree (kept l)) c.deref-in-loop-tree.ensures.value)

pub overflow_add-row-in-loop-tree : goal.overflow_add-row-in-loop-tree
overflow_add-row-in-loop-tree c =
    omega (
      arith,
      c.requires.rows,
      c.loop-tree.invariant.row,
      long c,
      count_own (kept c.args.journal.now.lines.items) c.loop-tree.tree,
    )

pub loop-tree-preserved : goal.loop-tree-preserved
loop-tree-preserved c =
    let acts : List (List Act) = kept c.args.journal.now.acts.items in
    let lines : List (List Line) = kept c.args.journal.now.lines.items in
    let tree = c.loop-tree.tree in
    let last = c.loop-tree.invariant in
    let more : c.loop-tree.row + length c.lines_in-own.result.now
    ≡ 2 + count_all acts + count_all (take (tree + 1) lines) =
    omega (arith, last.row, long c, count_next lines tree) in
    elim c.match-branch-2.branch [
      | in-Lacking w ↦
          let is = subst (IsFoundOf (tree_posts tree acts) (tree_lines tree lines)) w.in-Lacking.is (joined c) in
          record {
            row = more;
            right = right_more acts lines tree last.right is.0;
            lacks = λ yes. record { tree = tree; lacks = is.1 };
            all = λ no. absurd (true≢false (sym w.lacks-is ∙ no));
          }
      | in-Right w ↦
          let is = subst (IsFoundOf (tree_posts tree acts) (tree_lines tree lines)) w.in-Right.is (joined c) in
          record {
            row = more;
            right = right_more acts lines tree last.right is.0;
            lacks = λ yes. last.lacks (sym w.lacks-is ∙ yes);
            all = λ no. all_more acts lines tree (last.all (sym w.lacks-is ∙ no)) is.1;
          }
    ]

pub returns-then-lacks-clause-found : goal.returns-then-lacks-clause-found
returns-then-lacks-clause-found c =
    let acts : List (List Act) = kept c.args.journal.now.acts.items in
    let lines : List (List Line) = kept c.args.journal.now.lines.items in
    let is : length c.args.trees.now ≡ c.loop-tree.tree =
    omega (arith, c.loop-tree-test.false, c.loop-tree.auto.tree-end) in
    inr (lacks_only acts lines c.loop-tree.tree c.loop-tree.invariant.right
    (subst (λ (n : ℕ). EndsBefore n acts lines) is c.requires.near)
    (c.loop-tree.invariant.lacks c.if-lacks.true) 0 refl)

pub returns-else-lacks-clause-none : goal.returns-else-lacks-clause-none
returns-else-lacks-clause-none c = λ none.
    let acts : List (List Act) = kept c.args.journal.now.acts.items in
    let lines : List (List Line) = kept c.args.journal.now.lines.items in
    let is : length c.args.trees.now ≡ c.loop-tree.tree =
    omega (arith, c.loop-tree-test.false, c.loop-tree.auto.tree-end) in
    right_trees acts lines c.loop-tree.tree c.loop-tree.invariant.right
    (c.loop-tree.invariant.all c.if-lacks.false)
    (subst (λ (n : ℕ). EndsBefore n acts lines) is c.requires.near)
