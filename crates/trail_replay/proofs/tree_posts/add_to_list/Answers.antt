use Rattle.std.proofs.Common.{◌<◌, ◌++◌, ◌∷◌, [], map, length, ap, sym, ◌∙◌, arith}
use Rattle.trail_replay.specs.Reads.{lists_with}
use Rattle.trail_replay.proofs.Rows.{map-changed}
use Rattle.trail_replay.proofs.tree_posts.add_to_list.Goals as goal

pub returns-in-Ok : goal.returns-in-Ok
returns-in-Ok c =
    let lists = c.args.lists.now.items in
    let less : c.in-Post.tree < length lists = omega arith in
    map-changed (λ (values : _). values.items) (λ s. s ++ c.in-Post.value ∷ []) lists
    c.in-Post.tree c.push.new.self c.index_mut-values.result.now [] less
    c.index_mut-values.ensures.value c.in-Ok.ensures.items
    ∙ ap (lists_with (map (λ (values : _). values.items) lists)) (sym c.in-Post.is)
