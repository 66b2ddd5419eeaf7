-- What all installs of a record read, as a sum over its trails.
use Rattle.std.proofs.Common.{◌≡◌, ℕ, ◌+◌, List, [], ◌∷◌}
use Rattle.std.proofs.Common.{refl, arith}
use Rattle.node_rule.specs.Sums.{total, over, seen_in}
use Rattle.f_array.specs.Records.{Did}
use Rattle.trail_replay.specs.Sums.{read_in_all}
use Rattle.trail_replay.specs.Fronts.{tracks_from, view_of}

total-tracks : (tree child stamp first : ℕ) (passes : List Did)
    → total (seen_in tree child stamp) (tracks_from first passes)
    ≡ read_in_all tree child stamp passes
total-tracks tree child stamp first [] = refl
total-tracks tree child stamp first (did ∷ passes) =
    let rest = total-tracks tree child stamp (first + 1) passes in omega arith

-- what all installs say is the sum over the trails
pub seen-trails : (levels tree child stamp : ℕ) (passes : List Did)
    → over (seen_in tree child stamp) (view_of levels passes ∷ [])
    ≡ read_in_all tree child stamp passes
seen-trails levels tree child stamp passes =
    let all = total-tracks tree child stamp 0 passes in omega arith
