use Rattle.std.proofs.Common.{◌<◌, length}
use Rattle.session_tasks.proofs.RangeLists.{all_numbers}
use Rattle.session_tasks.proofs.pieces.tree_pieces.Goals as goal

pub map_all-requires-after_bounds : goal.map_all-requires-after_bounds
map_all-requires-after_bounds g c κs within =
    all_numbers (λ number. number < length c.args.trees.now) (length c.args.trees.now)
    c.in_ok-all.all.items c.in_ok-all.ensures (λ number below. below)
