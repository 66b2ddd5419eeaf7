-- Lists: what stands at a place, one more at the end, and a search from the front.
use Rattle.std.proofs.Common.{◌≡◌, ℕ, zero, suc, ◌+◌, ◌<◌, List, [], ◌∷◌, ◌++◌, length, map}
use Rattle.std.proofs.Common.{take, drop, get_or, add-one, drop-cons}
use Rattle.std.proofs.Common.{refl, sym, ap, ◌∙◌, arith, inl, inr, Bool, ◌||◌}
use Rattle.std.proofs.lemmas.List.{take_more}
use Rattle.std.proofs.lemmas.Option.{slice_get_within}
use Rattle.std.proofs.lemmas.Option.{slice_get-map}
use Rattle.std.proofs.lemmas.Option.{get_or_from_slice_get, slice_get_read}
use Rattle.std.specs.Prelude.{Some, slice_get, ◌⊎◌}
use Rattle.std.specs.Option.{option_map}
use Rattle.std.specs.List.{list_any}

-- what stands at a place of a list and one more stands in the list, or is the one more
pub pushed_at : {X : Type 0} (xs : List X) (x : X) (place : ℕ) (y : X)
    → slice_get (xs ++ x ∷ []) place ≡ Some y
    → (slice_get xs place ≡ Some y) ⊎ ((place ≡ length xs) × (x ≡ y))
pushed_at [] x zero y is = inr (refl, cc)
pushed_at [] x (suc place) y is = absurd cc
pushed_at (first ∷ xs) x zero y is = inl is
pushed_at (first ∷ xs) x (suc place) y is = elim (pushed_at xs x place y is) [
  | inl here ↦ inl here
  | inr last ↦ inr (omega (arith, last.0), last.1)
]

-- what stands at a place of a list stands there in a longer one
pub there_still : {X : Type 0} (xs ys : List X) (place : ℕ) (x : X) → slice_get xs place ≡ Some x
    → slice_get (xs ++ ys) place ≡ Some x
there_still [] ys place x is = absurd cc
there_still (first ∷ xs) ys zero x is = is
there_still (first ∷ xs) ys (suc place) x is = there_still xs ys place x is

-- the last of a list with one more
pub at_last : {X : Type 0} (xs : List X) (x : X) → slice_get (xs ++ x ∷ []) (length xs) ≡ Some x
at_last [] x = refl
at_last (first ∷ xs) x = at_last xs x

-- what stands at a place that is in the list
pub there_is : {X : Type 0} (xs : List X) (place : ℕ) → place < length xs
    → (x : X) × (slice_get xs place ≡ Some x)
there_is [] place below = absurd (omega arith)
there_is (first ∷ xs) zero below = (first, refl)
there_is (first ∷ xs) (suc place) below = there_is xs place (omega arith)

-- two lists of one length with the same at each place are equal
pub same_at_each : {X : Type 0} (xs ys : List X) → length xs ≡ length ys
    → ((place : ℕ) → slice_get xs place ≡ slice_get ys place) → xs ≡ ys
same_at_each [] [] same each = refl
same_at_each [] (y ∷ ys) same each = absurd (omega arith)
same_at_each (x ∷ xs) [] same each = absurd (omega arith)
same_at_each {X} (x ∷ xs) (y ∷ ys) same each =
    let first : Some x ≡ Some y = each 0 in
    let heads : x ≡ y = cc in
    let rest : xs ≡ ys = same_at_each xs ys (omega arith) (λ place. each (suc place)) in
    ap (λ (h : X). h ∷ xs) heads ∙ ap (λ (t : List X). y ∷ t) rest

-- a value at a place of a mapped list is that of what stands there
pub mapped_at : {X Y : Type 0} (f : X → Y) (xs : List X) (place : ℕ) (y : Y)
    → slice_get (map f xs) place ≡ Some y → (x : X) × (slice_get xs place ≡ Some x) × (f x ≡ y)
mapped_at f [] place y is = absurd cc
mapped_at f (x ∷ xs) zero y is = (x, refl, cc)
mapped_at f (x ∷ xs) (suc place) y is = mapped_at f xs place y is

pub map_at : {X Y : Type 0} (f : X → Y) (xs : List X) (place : ℕ) (x : X)
    → slice_get xs place ≡ Some x → slice_get (map f xs) place ≡ Some (f x)
map_at f xs place x is = slice_get-map f xs place ∙ ap (option_map f) is

-- one more is taken
pub take_one : {X : Type 0} (xs : List X) (place : ℕ) (x : X) → slice_get xs place ≡ Some x
    → take (place + 1) xs ≡ take place xs ++ x ∷ []
take_one {X} xs place x is =
    take_more xs place x (slice_get_within xs place x is)
    ∙ ap (λ (y : X). take place xs ++ y ∷ []) (get_or_from_slice_get xs place x x is)

-- what stands at a place behind another list
pub behind : {X : Type 0} (xs ys : List X) (place : ℕ)
    → slice_get (xs ++ ys) (length xs + place) ≡ slice_get ys place
behind [] ys place = ap (slice_get ys) (omega arith)
behind {X} (x ∷ xs) ys place =
    let next : length (x ∷ xs) + place ≡ suc (length xs + place) = omega arith in
    ap (slice_get (x ∷ xs ++ ys)) next ∙ behind xs ys place

pub list_any-map : {X Y : Type 0} (p : Y → Bool) (f : X → Y) (xs : List X)
    → list_any p (map f xs) ≡ list_any (λ x. p (f x)) xs
list_any-map p f [] = refl
list_any-map p f (x ∷ xs) = ap (λ (b : Bool). p (f x) || b) (list_any-map p f xs)

-- the first of those that are left stands at the place of a session, and the others are left
pub first_left : {X : Type 0} (xs old new : List X) (session : ℕ) (x : X) → old ≡ drop session xs
    → session < length xs → x ≡ get_or old 0 x → new ≡ drop 1 old
    → (slice_get xs session ≡ Some x) × (new ≡ drop (session + 1) xs)
first_left {X} xs old new session x left below first rest =
    let parts : old ≡ get_or xs session x ∷ drop (suc session) xs = left ∙ drop-cons xs session x
    below in
    let is : x ≡ get_or xs session x = first ∙ ap (λ (l : List X). get_or l 0 x) parts in (
      slice_get_read xs (length xs) session x refl below is,
      rest ∙ ap (drop 1) parts ∙ ap (λ (n : ℕ). drop n xs) (sym (add-one session)),
    )
