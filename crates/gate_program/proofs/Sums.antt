-- Sums over lists that are kept as vectors, one more at a time.
use Rattle.std.proofs.Common.{◌≡◌, ℕ, ◌+◌, List, [], ◌∷◌, map, take, ap, ◌∙◌}
use Rattle.std.proofs.Common.{Vec, Global}
use Rattle.std.proofs.lemmas.List.{map-append}
use Rattle.std.proofs.lemmas.List.Sums.{sum_by_push}
use Rattle.std.specs.Prelude.{Some, slice_get, sum_by}
use Rattle.gate_files.proofs.Lists.{take_one}

-- one list more adds what it comes to
pub sum_more : {X : Type 0} (f : List X → ℕ) (all : List (Vec X Global)) (place : ℕ)
    (own : Vec X Global) → slice_get all place ≡ Some own
    → sum_by f (map (λ own. own.items) (take (place + 1) all))
    ≡ sum_by f (map (λ own. own.items) (take place all)) + f own.items
sum_more {X} f all place own at =
    ap (λ (l : List (Vec X Global)). sum_by f (map (λ own. own.items) l)) (take_one all place own at)
    ∙ ap (sum_by f) (map-append (λ (v : Vec X Global). v.items) (take place all) (own ∷ []))
    ∙ sum_by_push f (map (λ own. own.items) (take place all)) own.items
