-- Among different names a name has one place, the first where it stands.
use Rattle.std.proofs.Common.{◌≡◌, ℕ, zero, suc, ◌+◌, ◌∙◌, List, [], ◌∷◌, cond, refl, sym, ap, arith}
use Rattle.std.proofs.Common.{true, false}
use Rattle.std.specs.Prelude.{Option, Some, None, slice_get}
use Rattle.std.specs.Option.{option_map}
use Rattle.std.specs.List.{IsDistinct, AllByRecursion}
use Rattle.std.specs.Str.{bytes_eq}
use Rattle.std.specs.Cmp.Lexicographic.{bytes_decides}
use Rattle.std.proofs.lemmas.Bool.{false_from_ne_true, true≢false}
use Rattle.std.proofs.lemmas.Map.Keys.{IsDistinct-head, IsDistinct-tail}
use Rattle.std.proofs.lemmas.Slice.Eq.{bytes_eq-Decides}
use Rattle.limit_table.specs.Kinds.{same_text}
use Rattle.limit_table.specs.Places.{IsPlaceOf}

-- a name
abbrev Name : Type 0
Name = List ℕ

-- a name that differs from all isn't at a place among them
not_there : (own name : Name) (names : List Name) (place : ℕ)
    → AllByRecursion (λ other. same_text own other ≡ false) names
    → slice_get names place ≡ Some name → bytes_eq own name ≡ false
not_there own name [] place apart at = absurd cc
not_there own name (other ∷ names) zero apart at =
    let same : other ≡ name = cc in
    false_from_ne_true (bytes_eq own name) (λ (equal : bytes_eq own name ≡ true).
    true≢false (sym ((bytes_decides own other).1 ((bytes_eq-Decides own name).0 equal ∙ sym same))
    ∙ apart.0))
not_there own name (other ∷ names) (suc place) apart at =
    not_there own name names place apart.1 at

-- a search that gives the first place where the name stands, by recursion
pub record IsFirstPlace (name : Name) (search : List Name → Option ℕ) : Type 0 where
  pub none : search [] ≡ None
  pub next : (own : Name) (names : List Name) → search (own ∷ names)
      ≡ cond (bytes_eq own name) (Some 0) (option_map (λ place. place + 1) (search names))

module _ (name : Name) (search : List Name → Option ℕ) (first : IsFirstPlace name search) where
  -- among different names the place of a name is the first
  pub place_is : (names : List Name) (place : Option ℕ) → IsDistinct same_text names
      → IsPlaceOf names name place → place ≡ search names
  place_is [] None distinct at = sym first.none
  place_is [] (Some place) distinct at = absurd cc
  place_is (own ∷ names) None distinct at =
      let apart : bytes_eq own name ≡ false = false_from_ne_true (bytes_eq own name)
      (λ (equal : bytes_eq own name ≡ true).
      at zero (ap (λ text. Some text) ((bytes_eq-Decides own name).0 equal))) in
      rw (first.next own names, apart) (ap (option_map (λ place. place + 1))
      (place_is names None (IsDistinct-tail same_text own names distinct)
      (λ place found. at (suc place) found)))
  place_is (own ∷ names) (Some zero) distinct at =
      let same : own ≡ name = cc in
      rw (first.next own names, (bytes_eq-Decides own name).1 same) refl
  place_is (own ∷ names) (Some (suc place)) distinct at =
      let next : suc place ≡ place + 1 = omega arith in
      rw (
        first.next own names,
        not_there own name names place (IsDistinct-head same_text own names distinct) at,
      )
      (ap (λ n. Some n) next ∙ ap (option_map (λ place. place + 1))
      (place_is names (Some place) (IsDistinct-tail same_text own names distinct) at))
