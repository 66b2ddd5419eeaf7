use Rattle.std.proofs.Common.{◌≡◌, ℕ, suc, ◌+◌, ◌*◌, ◌^◌, ◌%◌, ◌-◌, ◌++◌, List, [], ap, sym, ◌∙◌}
use Rattle.std.proofs.Common.{subst, arith}
use Rattle.std.specs.Prelude.{OnOk}
use Rattle.std.proofs.lemmas.List.{append-nil as append_nil}
use Rattle.risk_board.specs.declared.hand.Line.{Line}
use Rattle.trail_replay.specs.Descent.{grown_lines, IsUnder}
use Rattle.trail_replay.specs.Histories.{posts_of_tree}
use Rattle.trail_replay.specs.Sums.{read_in_all}
use Rattle.trail_replay.proofs.Descending.{few_nodes}
use Rattle.trail_replay.proofs.GrownBlocks.{grown-none, grown_both, left_under, right_under}
use Rattle.trail_replay.proofs.GrownBlocks.{inner_some, inner_below, doubled}
use Rattle.trail_replay.proofs.descent.+add_grown.Goals as goal

pub returns-then-span : goal.returns-then-span
returns-then-span t c =
    let seen : ℕ → ℕ → ℕ =
    λ child stamp. read_in_all c.args.tree child stamp c.args.prepared.now.passes.items in
    let lines = grown_lines seen (posts_of_tree c.args.tree c.args.prepared.now.passes.items)
    c.args.under.height c.args.under.node c.args.under.first in
    let same : c.args.span.before ≡ c.args.span.upto = omega arith in
    let none : lines c.args.span.before c.args.span.upto ≡ [] =
    ap (λ n. lines n c.args.span.upto) same
    ∙ grown-none seen _ c.args.under.height c.args.under.node c.args.under.first
    c.args.span.upto in
    sym (append_nil c.args.lines.now.items)
    ∙ ap (λ (s : List Line). c.args.lines.now.items ++ s) (sym none)

pub spans_below-requires-clause-inner : goal.spans_below-requires-clause-inner
spans_below-requires-clause-inner t c =
    let next : ℕ = c.args.under.height - 1 in
    let same : c.args.under.height ≡ suc next = omega arith in (
      inner_some _ _ _ _ next same c.requires.under,
      inner_below _ _ _ _ next same c.requires.under,
    )

pub add_grown-requires : goal.add_grown-requires
add_grown-requires t c =
    let next : ℕ = c.args.under.height - 1 in
    let same : c.args.under.height ≡ suc next = omega arith in
    let under = left_under _ _ _ _ next same c.requires.under in (
      omega arith,
      (c.requires.stamped, (c.requires.tree, (under, c.spans_below.ensures.left.own))),
    )

pub overflow_add-node : goal.overflow_add-node
overflow_add-node t c =
    let next : ℕ = c.args.under.height - 1 in
    let same : c.args.under.height ≡ suc next = omega arith in
    let inner = inner_below _ _ _ _ next same c.requires.under in
    let few = few_nodes c.args.prepared.now c.requires.stamped c.args.tree c.requires.tree in
    omega (arith, inner, few)

pub add_grown-requires-2 : goal.add_grown-requires-2
add_grown-requires-2 t c =
    let next : ℕ = c.args.under.height - 1 in
    let same : c.args.under.height ≡ suc next = omega arith in
    let levels = c.args.prepared.now.shape.levels in
    let node = c.args.under.node in
    let few = few_nodes c.args.prepared.now c.requires.stamped c.args.tree c.requires.tree in
    let twice = doubled levels node c.args.under.height c.args.under.first next same
    c.requires.under in
    let first : c.args.under.first + (1 * 2 ^ next) % 4294967296 ≡ c.args.under.first + 2 ^ next =
    omega (arith, few, twice, c.requires.under.room) in
    let under = right_under levels node c.args.under.height c.args.under.first next same
    c.requires.under in
    let here = subst (λ n. IsUnder levels (2 * node + 1) next n) (sym first) under in (
      omega arith,
      (c.requires.stamped, (c.requires.tree, (here, c.spans_below.ensures.right.own))),
    )

pub returns : goal.returns
returns t c =
    let next : ℕ = c.args.under.height - 1 in
    let same : c.args.under.height ≡ suc next = omega arith in
    let levels = c.args.prepared.now.shape.levels in
    let node = c.args.under.node in
    let posts = posts_of_tree c.args.tree c.args.prepared.now.passes.items in
    let seen : ℕ → ℕ → ℕ =
    λ child stamp. read_in_all c.args.tree child stamp c.args.prepared.now.passes.items in
    let few = few_nodes c.args.prepared.now c.requires.stamped c.args.tree c.requires.tree in
    let twice = doubled levels node c.args.under.height c.args.under.first next same
    c.requires.under in
    let first : c.args.under.first + (1 * 2 ^ next) % 4294967296 ≡ c.args.under.first + 2 ^ next =
    omega (arith, few, twice, c.requires.under.room) in
    let left = c.spans_below.result.0 in
    let right = c.spans_below.result.1 in
    let reads = c.spans_below.ensures in
    grown_both c.add_grown-2.result c.args.lines.now.items c.add_grown.new.lines.items
    c.add_grown-2.new.lines.items seen posts c.args.under.height next node c.args.under.first
    c.args.span.before c.args.span.upto left.before left.upto right.before right.upto same
    reads.left.before reads.left.upto reads.right.before reads.right.upto
    c.in_ok-add_grown.ensures
    (subst (λ n. OnOk c.add_grown-2.result (c.add_grown-2.new.lines.items
    ≡ c.add_grown.new.lines.items
    ++ grown_lines seen posts next (2 * node + 1) n right.before right.upto)) first
    c.add_grown-2.ensures)
