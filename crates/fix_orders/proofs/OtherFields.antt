-- The fields that a forward passes on as they came, up to a place and all of them.
use Rattle.std.proofs.Common.{◌≡◌, ℕ, ◌+◌, ◌≤◌, ◌<◌, List, [], ◌∷◌, ◌++◌, length, get_or, take, map}
use Rattle.std.proofs.Common.{refl, sym, ap, ◌∙◌, subst, arith, Bool, true, false}
use Rattle.std.proofs.Common.{append_assoc, length-append}
use Rattle.std.specs.Prelude.{Option, Some, None, IfSome, IsSome, filter, not, if◌then◌else◌}
use Rattle.std.proofs.lemmas.Bool.{false≢true}
use Rattle.std.proofs.lemmas.Grind.{flat_map-append}
use Rattle.std.proofs.lemmas.List.{append-nil, map-append, map-id}
use Rattle.std.proofs.lemmas.List.Elements.{filter-append}
use Rattle.std.proofs.lemmas.List.Concat.{flat_map-cons}
use Rattle.std.proofs.lemmas.List.Folds.{length-flat_map-take}
use Rattle.fix_fields.specs.Fields.{FieldValue, field, field_text, fields_text}
use Rattle.fix_fields.specs.Places.{ArePlacesOf, field_at}
use Rattle.fix_fields.specs.declared.walk.Field.{Field}
use Rattle.fix_orders.specs.Writing.{is_own_field}
use Rattle.fix_orders.proofs.Walks.{front_said, listed_there, listed_inside}

-- the text of the fields that are passed on as they came
abbrev pub others_text : List FieldValue → List ℕ
others_text fields = fields_text (filter (λ f. not (is_own_field f)) fields)

-- a field that is passed on
pub other_text : (f : FieldValue) → is_own_field f ≡ false
    → others_text (f ∷ []) ≡ field_text f
other_text f other = rw other (append-nil (field_text f))

-- a field that isn't
pub own_text : (f : FieldValue) → is_own_field f ≡ true → others_text (f ∷ []) ≡ []
own_text f own = rw own refl

pub others_text-append : (fs gs : List FieldValue)
    → others_text (fs ++ gs) ≡ others_text fs ++ others_text gs
others_text-append fs gs =
    ap fields_text (filter-append (λ f. not (is_own_field f)) fs gs)
    ∙ flat_map-append field_text (filter (λ f. not (is_own_field f)) fs)
    (filter (λ f. not (is_own_field f)) gs)

few_by : (own : Bool) (f : FieldValue) (kept fs : List FieldValue)
    → length (fields_text kept) ≤ length (fields_text fs)
    → length (fields_text (if not own then f ∷ kept else kept)) ≤ length (fields_text (f ∷ fs))
few_by true f kept fs h = omega (
  arith,
  ap length (flat_map-cons field_text f fs),
  length-append (field_text f) (fields_text fs),
  h,
)
few_by false f kept fs h = omega (
  arith,
  ap length (flat_map-cons field_text f fs),
  length-append (field_text f) (fields_text fs),
  ap length (flat_map-cons field_text f kept),
  length-append (field_text f) (fields_text kept),
  h,
)

-- what is passed on is no longer than all
pub others_few : (fs : List FieldValue) → length (others_text fs) ≤ length (fields_text fs)
others_few [] = omega arith
others_few (f ∷ fs) =
    few_by (is_own_field f) f (filter (λ f. not (is_own_field f)) fs) fs (others_few fs)

-- what was passed on and the next field are no longer than all
pub next_few : (bytes : List ℕ) (places walked : List Field) (listed : List FieldValue) (f : Field)
    → ArePlacesOf bytes places listed
    → map (λ (place : Field). place) walked ≡ take (length walked) places
    → length walked < length places → f ≡ get_or places (length walked) f
    → length (others_text (map (field_at bytes) walked))
    + length (field_text (field_at bytes f)) ≤ length (fields_text listed)
next_few bytes places walked listed f are so_far inside there = omega (
  arith,
  others_few (map (field_at bytes) walked),
  ap
      (λ fs. length (fields_text fs))
      (front_said bytes places walked listed f are so_far inside there),
  ap
      (λ g. length (field_text g))
      (listed_there bytes places walked listed f are so_far inside there),
  length-flat_map-take field_text listed (length walked) (field_at bytes f)
      (listed_inside bytes places walked listed f are so_far inside there),
)

-- a field that was put behind the body
pub passed : (old new : Option (List ℕ)) (f : FieldValue) (value : List ℕ) → value ≡ f.value
    → is_own_field f ≡ false
    → IfSome old (λ body. new ≡ Some (body ++ field_text (field f.tag value)))
    → IfSome old (λ body. new ≡ Some (body ++ others_text (f ∷ [])))
passed (Some body) new f value same other put =
    put ∙ ap (λ v. Some (body ++ field_text (field f.tag v))) same
    ∙ ap (λ t. Some (body ++ t)) (sym (other_text f other))
passed None new f value same other put = tt

-- a field that was left out
pub left_out : (old : Option (List ℕ)) (f : FieldValue) → is_own_field f ≡ true
    → IfSome old (λ body. old ≡ Some (body ++ others_text (f ∷ [])))
left_out (Some body) f own =
    ap Some (sym (append-nil body) ∙ ap (λ t. body ++ t) (sym (own_text f own)))
left_out None f own = tt

-- what is passed on before any field
pub at_first : (old : Option (List ℕ)) → IfSome old (λ before. old ≡ Some (before ++ []))
at_first (Some before) = ap Some (sym (append-nil before))
at_first None = tt

pub still_begun : (old now : Option (List ℕ)) (passed : List ℕ) → IsSome old
    → IfSome old (λ before. now ≡ Some (before ++ passed)) → IsSome now
still_begun (Some before) now passed some is = subst IsSome (sym is) refl
still_begun None now passed some is = absurd (false≢true some)

-- the next field fits
pub next_fits : (old now : Option (List ℕ)) (passed next : List ℕ) → IsSome old
    → IfSome old (λ body. length body ≤ 200)
    → IfSome old (λ before. now ≡ Some (before ++ passed))
    → length passed + length next ≤ 8192 → IfSome now (λ body. length body + length next ≤ 8400)
next_fits (Some before) now passed next some few is h =
    let Fits : Option (List ℕ) → Type 0 =
    λ o. IfSome o (λ body. length body + length next ≤ 8400) in
    subst Fits (sym is) (omega (arith, length-append before passed, few, h))
next_fits None now passed next some few is h = absurd (false≢true some)

-- one field more was passed on, or left out
pub next_passed : (old now new : Option (List ℕ)) (bytes : List ℕ) (walked : List Field) (f : Field)
    → IfSome old (λ before. now ≡ Some (before ++ others_text (map (field_at bytes) walked)))
    → IfSome now (λ body. new ≡ Some (body ++ others_text (field_at bytes f ∷ [])))
    → IfSome old
    (λ before. new ≡ Some (before ++ others_text (map (field_at bytes) (walked ++ f ∷ []))))
next_passed (Some before) now new bytes walked f is more =
    let passed = others_text (map (field_at bytes) walked) in
    let Grows : Option (List ℕ) → Type 0 =
    λ o. IfSome o (λ body. new ≡ Some (body ++ others_text (field_at bytes f ∷ []))) in
    subst Grows is more
    ∙ ap Some (append_assoc before passed (others_text (field_at bytes f ∷ []))
    ∙ ap (λ t. before ++ t)
    (sym (others_text-append (map (field_at bytes) walked) (field_at bytes f ∷ []))
    ∙ ap others_text (sym (map-append (field_at bytes) walked (f ∷ [])))))
next_passed None now new bytes walked f is more = tt

-- all fields were walked
pub all_passed : (old new : Option (List ℕ)) (bytes : List ℕ) (places walked : List Field)
    (listed : List FieldValue) → ArePlacesOf bytes places listed
    → map (λ (place : Field). place) walked ≡ places
    → IfSome old (λ before. new ≡ Some (before ++ others_text (map (field_at bytes) walked)))
    → IfSome old (λ before. new ≡ Some (before ++ others_text listed))
all_passed old new bytes places walked listed are all is =
    let Passed : List FieldValue → Type 0 =
    λ fs. IfSome old (λ before. new ≡ Some (before ++ others_text fs)) in
    subst Passed (ap (map (field_at bytes)) (sym (map-id walked) ∙ all) ∙ are.said) is
