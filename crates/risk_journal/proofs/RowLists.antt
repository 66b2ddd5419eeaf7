-- Rows of lists, one more at a time.
use Rattle.std.proofs.Common.{◌≡◌, ℕ, ◌+◌, ◌<◌, List, [], ◌∷◌, ◌++◌, length, map, take, sym, ap}
use Rattle.std.proofs.Common.{◌∙◌, arith, append_assoc, add-zero, length-take}
use Rattle.std.specs.List.{flat_map, enumerate_from}
use Rattle.std.proofs.Math.ListN.{get_or}
use Rattle.std.proofs.lemmas.List.{take_more, append-nil, map-append, length-map}

-- the rows of the first elements by their numbers
abbrev pub numbered : {X Y : Type 0} → (ℕ × Y → List ℕ) → (X → Y) → ℕ → List X → List ℕ
numbered f g n xs = flat_map f (enumerate_from n (map g xs))

-- numbered parts, one more at the end
pub numbered_push : {X A : Type 0} (f : ℕ × X → List A) (n : ℕ) (xs : List X) (x : X)
    → flat_map f (enumerate_from n (xs ++ x ∷ []))
    ≡ flat_map f (enumerate_from n xs) ++ f (n + length xs, x)
numbered_push f n [] x = rw (add-zero n) (append-nil (f (n, x)))
numbered_push f n (y ∷ xs) x =
    let more = numbered_push f (n + 1) xs x in
    let place : n + 1 + length xs ≡ n + length (y ∷ xs) = omega arith in
    ap (λ rest. f (n, y) ++ rest) more
    ∙ sym (append_assoc (f (n, y)) (flat_map f (enumerate_from (n + 1) xs))
    (f (n + 1 + length xs, x)))
    ∙ ap (λ at. (f (n, y) ++ flat_map f (enumerate_from (n + 1) xs)) ++ f (at, x)) place

numbered-snoc : {X Y : Type 0} (f : ℕ × Y → List ℕ) (g : X → Y) (n : ℕ) (xs : List X) (x : X)
    → numbered f g n (xs ++ x ∷ []) ≡ numbered f g n xs ++ f (n + length xs, g x)
numbered-snoc f g n xs x =
    ap (λ own. flat_map f (enumerate_from n own)) (map-append g xs (x ∷ []))
    ∙ numbered_push f n (map g xs) (g x)
    ∙ ap (λ count. numbered f g n xs ++ f (n + count, g x)) (length-map xs g)

-- the row of one element more, by its number
pub numbered_more : {X Y : Type 0} (f : ℕ × Y → List ℕ) (g : X → Y) (n : ℕ) (xs : List X) (i : ℕ)
    (x : X) (before : List ℕ) → i < length xs → x ≡ get_or xs i x
    → (before ++ numbered f g n (take i xs)) ++ f (n + i, g x)
    ≡ before ++ numbered f g n (take (i + 1) xs)
numbered_more f g n xs i x before in_range is =
    let front : take (i + 1) xs ≡ take i xs ++ x ∷ [] =
    take_more xs i x in_range ∙ ap (λ more. take i xs ++ more ∷ []) (sym is) in
    let count : length (take i xs) ≡ i = omega (arith, length-take i xs) in
    append_assoc before (numbered f g n (take i xs)) (f (n + i, g x))
    ∙ ap (λ rest. before ++ rest)
    (ap (λ at. numbered f g n (take i xs) ++ f (n + at, g x)) (sym count)
    ∙ sym (numbered-snoc f g n (take i xs) x)
    ∙ ap (numbered f g n) (sym front))

-- one row more behind those so far
pub next_numbered : {X Y : Type 0} (f : ℕ × Y → List ℕ) (g : X → Y) (n : ℕ) (xs : List X) (i at : ℕ)
    (x : X) (before text after : List ℕ) → i < length xs → x ≡ get_or xs i x → at ≡ n + i
    → text ≡ before ++ numbered f g n (take i xs) → after ≡ text ++ f (at, g x)
    → after ≡ before ++ numbered f g n (take (i + 1) xs)
next_numbered f g n xs i at x before text after in_range is place so_far more =
    more
    ∙ ap (λ own. own ++ f (at, g x)) so_far
    ∙ ap (λ own. (before ++ numbered f g n (take i xs)) ++ f (own, g x)) place
    ∙ numbered_more f g n xs i x before in_range is
