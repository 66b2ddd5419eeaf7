-- the session's posts with one more
use Rattle.std.proofs.Common.{◌<◌, ℕ, List, [], ◌∷◌, ◌++◌, ap, length, arith, Vec, Global}
use Rattle.journal_check.specs.Buckets.{TreeValue}
use Rattle.journal_check.proofs.Changed.{map-changed}
use Rattle.journal_check.proofs.tree_acts.add_post.Goals as goal

pub returns-in-Ok : goal.returns-in-Ok
returns-in-Ok c =
    let own = c.args.own.now in
    let less : c.args.session < length own.posts.items = omega arith in
    let with_posts : List (List ℕ) → TreeValue = λ posts. record {
      posts = posts;
      reads = own.reads.items;
      least = own.least;
    } in
    ap with_posts
    (map-changed (λ (values : Vec ℕ Global). values.items) (λ s. s ++ c.args.value ∷ [])
    own.posts.items c.args.session c.push.new.self c.index_mut-posts.result.now [] less
    c.index_mut-posts.ensures.value c.in-Ok.ensures.items)
