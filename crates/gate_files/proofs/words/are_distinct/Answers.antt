use Rattle.std.proofs.Common.{◌≡◌, ℕ, ◌+◌, suc, List, ◌-◌, drop, take, length, map, sym, ap}
use Rattle.std.proofs.Common.{◌∙◌, Bool, ◌&&◌, not}
use Rattle.std.proofs.Common.{string_bytes, false, true}
use Rattle.std.specs.List.{list_any}
use Rattle.std.specs.Str.{bytes_eq}
use Rattle.gate_files.specs.Words.{are_distinct, is_among}
use Rattle.gate_files.proofs.WordTests.{among_later, distinct_from}
use Rattle.gate_files.proofs.words.are_distinct.Goals as goal

pub returns-then-is_among : goal.returns-then-is_among
returns-then-is_among c =
    let names = c.args.names.now in
    let place = c.loop-place.place in
    let x = c.index-names-place.result in
    let among : is_among (string_bytes x) (map string_bytes (drop (suc place) names)) ≡ true =
    sym (among_later names place (string_bytes x))
    ∙ ap (λ (n : List ℕ). list_any (λ other. bytes_eq n (string_bytes other))
    (take (length names - (place + 1)) (drop (place + 1) names))) (sym c.as_str.ensures.value)
    ∙ sym c.is_among.ensures ∙ c.if-is_among.true in
    sym (c.loop-place.invariant ∙ distinct_from names place x c.loop-place-test.true
    c.index-names-place.is
    ∙ ap (λ (b : Bool). not b && are_distinct (map string_bytes (drop (place + 1) names))) among)

pub loop-place-preserved : goal.loop-place-preserved
loop-place-preserved c =
    let names = c.args.names.now in
    let place = c.loop-place.place in
    let x = c.index-names-place.result in
    let among : is_among (string_bytes x) (map string_bytes (drop (suc place) names)) ≡ false =
    sym (among_later names place (string_bytes x))
    ∙ ap (λ (n : List ℕ). list_any (λ other. bytes_eq n (string_bytes other))
    (take (length names - (place + 1)) (drop (place + 1) names))) (sym c.as_str.ensures.value)
    ∙ sym c.is_among.ensures ∙ c.if-is_among.false in
    c.loop-place.invariant ∙ distinct_from names place x c.loop-place-test.true
    c.index-names-place.is
    ∙ ap (λ (b : Bool). not b && are_distinct (map string_bytes (drop (place + 1) names))) among
