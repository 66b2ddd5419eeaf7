use Rattle.std.proofs.Common.{◌<◌, ℕ, suc, ap, sym, subst, refl, ◌∙◌, arith}
use Rattle.node_rule.specs.Sums.{posts_in}
use Rattle.node_rule.proofs.Posting.{posting, store_told, store_counted, store_allowed, posted_sound, posted_room}
use Rattle.node_rule.proofs.words.Words.store_leaf.Goals as goal

pub pack-word-requires-clause-value : goal.pack-word-requires-clause-value
pack-word-requires-clause-value g c = g.met.F.Fold.laws.under_values 1 c.args.value (omega arith)
    (g.met.F.Fold.laws.leaf_under c.args.value c.requires.value)

pub store-requires-clause-place : goal.store-requires-clause-place
store-requires-clause-place g c =
    let seen = ap (λ s. s.view) c.climb.view_is ∙ c.requires.idle.1 in
    let post = posting c.climb.invariant.0 c.climb.invariant.3 (ap (λ s. s.plan) c.climb.view_is)
    (c.requires.table.1 ∙ sym (ap (λ s. s.plan) c.self.view_is)) c.requires.tree seen
    c.requires.idle.2 c.index-posts.result.now c.index-posts.ensures _ _ _
    c.shape_of-shape.ensures.0 c.leaf-leaf.ensures c.path-place.ensures in
    subst (λ (words : ℕ). c.path-place.result < words) (sym c.self.invariant.3) post.place_in

pub store-requires-clause-allowed : goal.store-requires-clause-allowed
store-requires-clause-allowed g c =
    let seen = ap (λ s. s.view) c.climb.view_is ∙ c.requires.idle.1 in
    let post = posting c.climb.invariant.0 c.climb.invariant.3 (ap (λ s. s.plan) c.climb.view_is)
    (c.requires.table.1 ∙ sym (ap (λ s. s.plan) c.self.view_is)) c.requires.tree seen
    c.requires.idle.2 c.index-posts.result.now c.index-posts.ensures _ _ _
    c.shape_of-shape.ensures.0 c.leaf-leaf.ensures c.path-place.ensures in
    store_allowed g.met.F.Fold.laws c.self.inside.table.table_id.slots c.climb.inside.seat.id
    c.climb.inside.seat.me c.self.invariant.1 c.args.climb.now.plan.levels c.requires.idle.0
    c.args.tree c.args.value c.pack-word.result c.path-place.result seen post.tree_in post.room
    c.requires.value (c.pack-word.ensures.stamp ∙ post.one_more) c.pack-word.ensures.value
    post.place_is

pub invariant_of-climb : goal.invariant_of-climb
invariant_of-climb g c =
    let seen = ap (λ s. s.view) c.climb.view_is ∙ c.requires.idle.1 in
    let post = posting c.climb.invariant.0 c.climb.invariant.3 (ap (λ s. s.plan) c.climb.view_is)
    (c.requires.table.1 ∙ sym (ap (λ s. s.plan) c.self.view_is)) c.requires.tree seen
    c.requires.idle.2 c.index-posts.result.now c.index-posts.ensures _ _ _
    c.shape_of-shape.ensures.0 c.leaf-leaf.ensures c.path-place.ensures in
    let after = store_told c.self.inside.plan c.args.climb.now.plan.levels c.requires.idle.0
    c.args.tree c.path-place.result c.pack-word.result c.args.value
    (suc (posts_in c.args.tree c.requires.idle.0)) c.climb.inside.seat.me c.store.new.seat.me seen
    post.levels_is post.inside post.place_is (c.pack-word.ensures.stamp ∙ post.one_more)
    c.pack-word.ensures.value c.store.ensures.told in (
      posted_sound c.climb.invariant.0 post seen c.started_at-climb-inside.result
          c.started_at-climb-inside.ensures c.args.value c.push_reserved.new.self.items
          c.push_reserved.ensures.items c.store.new.seat.me.0 after,
      ap (λ m. m.1) c.store.ensures.told ∙ c.climb.invariant.1,
      posted_room c.climb.invariant.0 post seen c.started_at-climb-inside.result
          c.started_at-climb-inside.ensures c.climb.inside.spare _ _ _ _ _ _
          (let some = ap (λ s. s.spare) c.climb.view_is in let spare = c.requires.spare in
          omega arith) c.push_reserved.ensures.len c.push_reserved.ensures.capacity
          c.climb.invariant.2,
      store_counted c.climb.inside.plan c.climb.inside.calls.items
          c.push_reserved.new.self.items c.climb.inside.counts.items _ c.args.tree c.args.value
          c.index-posts.result.now post.tree_own c.push_reserved.ensures.items post.posts_is refl
          c.climb.invariant.3,
    )

pub returns-clause-view : goal.returns-clause-view
returns-clause-view g c =
    let seen = ap (λ s. s.view) c.climb.view_is ∙ c.requires.idle.1 in
    let post = posting c.climb.invariant.0 c.climb.invariant.3 (ap (λ s. s.plan) c.climb.view_is)
    (c.requires.table.1 ∙ sym (ap (λ s. s.plan) c.self.view_is)) c.requires.tree seen
    c.requires.idle.2 c.index-posts.result.now c.index-posts.ensures _ _ _
    c.shape_of-shape.ensures.0 c.leaf-leaf.ensures c.path-place.ensures in (
      c.requires.idle.0,
      c.requires.idle.1,
      store_told c.self.inside.plan c.args.climb.now.plan.levels c.requires.idle.0 c.args.tree
          c.path-place.result c.pack-word.result c.args.value
          (suc (posts_in c.args.tree c.requires.idle.0)) c.climb.inside.seat.me
          c.store.new.seat.me seen post.levels_is post.inside post.place_is
          (c.pack-word.ensures.stamp ∙ post.one_more) c.pack-word.ensures.value
          c.store.ensures.told,
    )
