-- A list changed one element at a time.
use Rattle.std.proofs.Common.{◌≡◌, ℕ, ◌+◌, ◌<◌, List, [], ◌∷◌, ◌++◌, length, map, take}
use Rattle.std.proofs.Common.{drop, refl, sym, ap, ◌∙◌, arith, add-one, drop-cons}
use Rattle.std.proofs.Math.ListN.{get_or, set, length-set}
use Rattle.std.proofs.lemmas.List.{take_more, take_more_set, drop-set, map-append}

rest_from : {X : Type 0} (xs : List X) (i : ℕ) (d : X) → i < length xs
    → drop i xs ≡ get_or xs i d ∷ drop (i + 1) xs
rest_from xs i d in_range = rw (add-one, drop-cons xs i d) refl

-- the next element is changed, and those behind it are as they were
pub changed_more : {X : Type 0} (change : X → X) (old now : List X) (i : ℕ) (d y : X)
    → i < length now → length now ≡ length old
    → take i now ≡ map change (take i old) → drop i now ≡ drop i old
    → y ≡ change (get_or now i d)
    → (take (i + 1) (set now i y) ≡ map change (take (i + 1) old))
    × (drop (i + 1) (set now i y) ≡ drop (i + 1) old)
changed_more change old now i d y in_range long front rest is =
    let both : get_or now i d ∷ drop (i + 1) now ≡ get_or old i d ∷ drop (i + 1) old =
    sym (rest_from now i d in_range) ∙ rest ∙ rest_from old i d (omega arith) in
    let behind : get_or (set now i y) i d ∷ drop (i + 1) (set now i y) ≡ y ∷ drop (i + 1) now =
    sym (rest_from (set now i y) i d (simp length-set (omega arith)))
    ∙ drop-set now i y in_range in
    let same : get_or now i d ≡ get_or old i d = cc in
    let later : drop (i + 1) (set now i y) ≡ drop (i + 1) old = cc in (
      take_more_set now i y in_range
          ∙ ap (λ own. own ++ y ∷ []) front
          ∙ ap (λ own. map change (take i old) ++ own ∷ []) (is ∙ ap change same)
          ∙ sym (map-append change (take i old) (get_or old i d ∷ []))
          ∙ ap (map change) (sym (take_more old i d (omega arith))),
      later,
    )
