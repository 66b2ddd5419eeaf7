-- The places of names, with one name more.
use Rattle.std.proofs.Common.{◌≡◌, ℕ, zero, suc, List, [], ◌∷◌, ◌++◌, length, true, false, cond}
use Rattle.std.proofs.Common.{refl, sym, ap, ◌∙◌, nat_eq, Option, Some, None, ◌⊎◌, inl, inr}
use Rattle.std.proofs.lemmas.Bool.{cases_Bool}
use Rattle.std.specs.Prelude.{slice_get}
use Rattle.std.specs.Ordering.{nat_cmp, is_eq}
use Rattle.std.specs.Cmp.Lexicographic.{slice_cmp, pointwise, bytes_decides, texts_ties}
use Rattle.limit_table.specs.Places.{IsPlaceOf}

-- a name
abbrev Name : Type 0
Name = List ℕ

stays : (names : List Name) (k q : Name) (i : ℕ) → slice_get names i ≡ Some q
    → slice_get (names ++ k ∷ []) i ≡ Some q
stays [] k q i h = cc h
stays (n ∷ names) k q zero h = h
stays (n ∷ names) k q (suc i) h = stays names k q i h

last_name : (names : List Name) (k : Name) → slice_get (names ++ k ∷ []) (length names) ≡ Some k
last_name [] k = refl
last_name (n ∷ names) k = last_name names k

one_of : (names : List Name) (k q : Name) (i : ℕ) → slice_get (names ++ k ∷ []) i ≡ Some q
    → (slice_get names i ≡ Some q) ⊎ (k ≡ q)
one_of [] k q zero h = inr (cc h)
one_of [] k q (suc i) h = inl h
one_of (n ∷ names) k q zero h = inl h
one_of (n ∷ names) k q (suc i) h = one_of names k q i h

true_is_not_false : true ≡ false → ⊥
true_is_not_false h = cc h

-- the order of texts tells them apart
ties_are_same : (k q : Name) → is_eq (slice_cmp nat_cmp k q) ≡ true → k ≡ q
ties_are_same k q h = (bytes_decides k q).0 (texts_ties k q ∙ h)

same_are_ties : (k q : Name) → is_eq (slice_cmp nat_cmp k q) ≡ false → k ≡ q → ⊥
same_are_ties k q h e =
    let tied : pointwise nat_eq k q ≡ true = (bytes_decides k q).1 e in
    let apart : pointwise nat_eq k q ≡ false = texts_ties k q ∙ h in
    true_is_not_false (sym tied ∙ apart)

kept : (names : List Name) (k q : Name) (o : Option ℕ) → IsPlaceOf names q o → (k ≡ q → ⊥)
    → IsPlaceOf (names ++ k ∷ []) q o
kept names k q (Some i) h other = stays names k q i h
kept names k q None h other = λ i found. elim (one_of names k q i found) [
  | inl before ↦ h i before
  | inr last ↦ other last
]

-- a name more, with its place
pub place_more : (names : List Name) (k q : Name) (o : Option ℕ) → IsPlaceOf names q o
    → IsPlaceOf (names ++ k ∷ []) q
    (cond (is_eq (slice_cmp nat_cmp k q)) (Some (length names)) o)
place_more names k q o h = elim (cases_Bool (is_eq (slice_cmp nat_cmp k q))) [
  | inl tied ↦ rw tied (last_name names k ∙ ap (λ n. Some n) (ties_are_same k q tied))
  | inr apart ↦ rw apart (kept names k q o h (same_are_ties k q apart))
]
