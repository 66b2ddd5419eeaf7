-- A read takes the front of what is left, and nothing only where nothing is left.
use Rattle.std.proofs.Common.{◌≡◌, ℕ, ◌+◌, ◌-◌, ◌<◌, List, [], ◌++◌, length, take, drop, min}
use Rattle.std.proofs.Common.{arith, ap, sym, ◌∙◌, length-drop, length-take, take-append-drop}
use Rattle.std.proofs.lemmas.List.{take_all, drop_all, drop-drop}

-- the slice behind a place is all that is left there
pub slice_is_rest : (xs : List ℕ) (at : ℕ) → take (length xs - at) (drop at xs) ≡ drop at xs
slice_is_rest xs at = take_all _ _ (omega (arith, length-drop at xs))

-- a buffer that begins with the first n bytes of the rest has consumed them
pub consumes_front : (xs new : List ℕ) (at n : ℕ)
    → take n new ≡ take n (take (length xs - at) (drop at xs))
    → drop at xs ≡ take n new ++ drop (at + n) xs
consumes_front xs new at n same =
    sym (take-append-drop n (drop at xs))
    ∙ ap (λ s. take n (drop at xs) ++ s) (drop-drop n at xs)
    ∙ ap (λ s. s ++ drop (at + n) xs) (sym (same ∙ ap (take n) (slice_is_rest xs at)))

-- no byte where a call may give some: none was left
pub none_left : (xs : List ℕ) (at n room most : ℕ) → 0 < most
    → n ≡ min (min (length (take (length xs - at) (drop at xs))) room) most
    → n ≡ 0 → 0 < room → drop (at + n) xs ≡ []
none_left xs at n room most some count none room_some =
    let long = length-take (length xs - at) (drop at xs) in
    drop_all (at + n) xs (omega (arith, long, length-drop at xs))
