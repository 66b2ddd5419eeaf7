use Rattle.std.proofs.Common.{◌≡◌, ◌++◌, List, [], ℕ, length, get_or, map, ap, sym, ◌∙◌, subst, arith}
use Rattle.std.specs.Prelude.{OnOk}
use Rattle.std.proofs.lemmas.Option.{get_or_from_slice_get}
use Rattle.trail_replay.specs.Blocks.{lines_between}
use Rattle.trail_replay.specs.Histories.{posts_of_tree}
use Rattle.trail_replay.proofs.Descending.{leaf_posts, list_at, list_inside, posts_seen}
use Rattle.trail_replay.proofs.PreparedTables.{value_at}
use Rattle.trail_replay.proofs.descent.add_own.Goals as goal

pub index-values-requires : goal.index-values-requires
index-values-requires c =
    let posts = posts_seen _ _ _ _ c.prepared.view_is c.prepared.invariant c.args.tree
    c.requires.tree in
    let inside = list_inside c.args.tree c.prepared.inside.posts.items c.args.session
    c.index-lists.result.now (omega arith) c.index-lists.ensures posts.long in
    omega (arith, inside, c.index-lists.result.now.ok.0)

pub add_between-requires-clause-within : goal.add_between-requires-clause-within
add_between-requires-clause-within c =
    let tree = c.args.tree in
    let items = c.prepared.inside.posts.items in
    let lists = c.index-lists.result.now in
    let own = get_or (map (λ (v : _). v.items) lists.items) tree [] in
    let posts = posts_seen _ _ _ _ c.prepared.view_is c.prepared.invariant tree c.requires.tree in
    let inside = list_inside tree items c.args.session lists (omega arith) c.index-lists.ensures
    posts.long in
    let at = list_at tree items c.args.session lists (omega arith) c.index-lists.ensures
    (posts_of_tree tree c.args.prepared.now.passes.items) posts.each in
    let many = leaf_posts c.args.prepared.now c.requires.stamped tree c.requires.tree
    c.args.session own c.requires.leaf at in
    let is = c.deref.ensures.value
    ∙ value_at (λ (v : _). v.items) lists.items tree c.index-values.result.now [] inside
    c.index-values.ensures in
    omega (arith, many, ap length is, c.requires.span.reached)

pub returns : goal.returns
returns c =
    let tree = c.args.tree in
    let items = c.prepared.inside.posts.items in
    let lists = c.index-lists.result.now in
    let own = get_or (map (λ (v : _). v.items) lists.items) tree [] in
    let all = posts_of_tree tree c.args.prepared.now.passes.items in
    let posts = posts_seen _ _ _ _ c.prepared.view_is c.prepared.invariant tree c.requires.tree in
    let inside = list_inside tree items c.args.session lists (omega arith) c.index-lists.ensures
    posts.long in
    let at = list_at tree items c.args.session lists (omega arith) c.index-lists.ensures all
    posts.each in
    let is = c.deref.ensures.value
    ∙ value_at (λ (v : _). v.items) lists.items tree c.index-values.result.now [] inside
    c.index-values.ensures in
    let found = get_or_from_slice_get all c.args.session own [] at in
    subst (λ (values : List ℕ). OnOk c.add_between.result (c.add_between.new.lines.items
    ≡ c.args.lines.now.items ++ lines_between c.args.session c.args.span.before c.args.span.upto
    values)) (is ∙ sym found) c.add_between.ensures
