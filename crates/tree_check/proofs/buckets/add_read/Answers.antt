-- A list with one read more.
use Rattle.std.proofs.Common.{◌<◌, ◌++◌, ◌∷◌, [], length, arith}
use Rattle.trail_replay.proofs.Rows.{map-changed}
use Rattle.tree_check.proofs.buckets.add_read.Goals as goal

pub returns-in-Ok : goal.returns-in-Ok
returns-in-Ok c =
    let lists = c.args.all.now.items in
    let less : c.args.read.place < length lists = omega arith in
    map-changed (λ (own : _). own.items) (λ s. s ++ c.args.read ∷ []) lists
    c.args.read.place c.push.new.self c.index_mut-own.result.now [] less
    c.index_mut-own.ensures.value c.in-Ok.ensures.items
