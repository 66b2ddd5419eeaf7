-- What one order more rests as.
use Rattle.std.proofs.Common.{◌≡◌, ℕ, ◌+◌, ◌<◌, List, [], ◌∷◌, ◌++◌, length, take, ap, sym, ◌∙◌}
use Rattle.std.specs.List.{flat_map, slice_index_or}
use Rattle.std.proofs.lemmas.Grind.{flat_map-append}
use Rattle.std.proofs.lemmas.List.{append-nil, take_more}
use Rattle.fold_law.specs.Whole.{whole_of}
use Rattle.cross_guard.specs.Halves.{cross_join}
use Rattle.cross_guard.specs.Resting.{RestingValue, values_of, value_in}
use Rattle.cross_guard.proofs.Clearing.{joined, whole-joined}
use Rattle.cross_guard.proofs.Rested.{joined-append}

value-snoc : (symbol : ℕ) (orders : List RestingValue) (order : RestingValue)
    → value_in symbol (orders ++ order ∷ [])
    ≡ cross_join (value_in symbol orders) (whole_of cross_join 0 (values_of symbol order))
value-snoc symbol orders order =
    let rest : List ℕ = flat_map (values_of symbol) orders in
    let own : List ℕ = values_of symbol order in
    ap (whole_of cross_join 0) (flat_map-append (values_of symbol) orders (order ∷ [])
    ∙ ap (λ l. rest ++ l) (append-nil own))
    ∙ whole-joined (rest ++ own)
    ∙ joined-append rest own
    ∙ ap (λ v. cross_join v (joined own)) (sym (whole-joined rest))
    ∙ ap (λ v. cross_join (whole_of cross_join 0 rest) v) (sym (whole-joined own))

pub value-more : (symbol : ℕ) (orders : List RestingValue) (i : ℕ) (order : RestingValue)
    → i < length orders → order ≡ slice_index_or orders i order
    → value_in symbol (take (i + 1) orders)
    ≡ cross_join (value_in symbol (take i orders)) (whole_of cross_join 0 (values_of symbol order))
value-more symbol orders i order inside at =
    ap (value_in symbol) (take_more orders i order inside
    ∙ ap (λ o. take i orders ++ o ∷ []) (sym at))
    ∙ value-snoc symbol (take i orders) order
