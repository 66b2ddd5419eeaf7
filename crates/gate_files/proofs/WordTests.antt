-- What the tests of words come to.
use Rattle.std.proofs.Common.{◌≡◌, ℕ, suc, ◌+◌, ◌-◌, ◌<◌, ◌&&◌, List, length}
use Rattle.std.proofs.Common.{map, drop, take}
use Rattle.std.proofs.Common.{sym, ap, ◌∙◌, arith, not, get_or, drop-cons}
use Rattle.std.proofs.Common.{add-one}
use Rattle.std.proofs.Common.{string_bytes, String, Global, length-drop}
use Rattle.std.proofs.lemmas.List.{take_all}
use Rattle.std.specs.List.{list_any}
use Rattle.std.specs.Str.{bytes_eq}
use Rattle.gate_files.specs.Words.{are_distinct, is_among}
use Rattle.gate_files.proofs.Lists.{list_any-map}

-- whether the name stands among later ones
pub among_later : (names : List (String Global)) (place : ℕ) (name : List ℕ)
    → list_any (λ other. bytes_eq name (string_bytes other))
    (take (length names - (place + 1)) (drop (place + 1) names))
    ≡ is_among name (map string_bytes (drop (suc place) names))
among_later names place name =
    ap (λ (l : List (String Global)). list_any (λ other. bytes_eq name (string_bytes other)) l)
    (take_all (length names - (place + 1)) (drop (place + 1) names)
    (omega (arith, length-drop {A = String Global})))
    ∙ ap (λ (n : ℕ). list_any (λ other. bytes_eq name (string_bytes other)) (drop n names))
    (add-one place)
    ∙ sym (list_any-map (bytes_eq name) string_bytes (drop (suc place) names))

-- the names from a place on are distinct where the first isn't among the later ones
pub distinct_from : (names : List (String Global)) (place : ℕ) (x : String Global)
    → place < length names → x ≡ get_or names place x
    → are_distinct (map string_bytes (drop place names))
    ≡ (not (is_among (string_bytes x) (map string_bytes (drop (suc place) names)))
    && are_distinct (map string_bytes (drop (place + 1) names)))
distinct_from names place x below is =
    ap (λ (l : List (String Global)). are_distinct (map string_bytes l))
    (drop-cons names place x below)
    ∙ ap (λ (y : String Global). not (is_among (string_bytes y)
    (map string_bytes (drop (suc place) names)))
    && are_distinct (map string_bytes (drop (suc place) names))) (sym is)
    ∙ ap (λ (n : ℕ). not (is_among (string_bytes x) (map string_bytes (drop (suc place) names)))
    && are_distinct (map string_bytes (drop n names))) (sym (add-one place))
