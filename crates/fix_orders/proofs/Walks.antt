-- A walk over the places of a frame's fields.
use Rattle.std.proofs.Common.{◌≡◌, ℕ, ◌≤◌, ◌<◌, List, [], ◌∷◌, ◌++◌, length, get_or, take, map}
use Rattle.std.proofs.Common.{refl, sym, ap, ◌∙◌, subst, arith, zero, suc}
use Rattle.std.specs.List.{AllByRecursion}
use Rattle.std.proofs.Math.ListN.{get_or-map}
use Rattle.std.proofs.lemmas.List.{length-map, map-append, map-id}
use Rattle.fix_fields.specs.Fields.{FieldValue, IsField, field, fields_text}
use Rattle.fix_fields.specs.Places.{HasFieldsIn, IsPlace, ArePlacesOf, field_at}
use Rattle.fix_fields.specs.declared.frame.Frame.{Frame}
use Rattle.fix_fields.specs.declared.walk.Field.{Field}

-- what each element has, the one at an index has
each_at : {X : Type 0} (P : X → Type 0) (xs : List X) (i : ℕ) (d : X) → i < length xs
    → AllByRecursion P xs → P (get_or xs i d)
each_at P [] i d h each = absurd (omega arith)
each_at P (x ∷ xs) zero d h each = each.0
each_at P (x ∷ xs) (suc i) d h each = each_at P xs i d (omega arith) each.1

map_take : {X Y : Type 0} (f : X → Y) (n : ℕ) (xs : List X) → map f (take n xs) ≡ take n (map f xs)
map_take f zero xs = refl
map_take f (suc n) [] = refl
map_take f (suc n) (x ∷ xs) = ap (λ ys. f x ∷ ys) (map_take f n xs)

-- the text of a frame's fields is its body
pub fields_few : (bytes : List ℕ) (frame : Frame) (listed : List FieldValue)
    → HasFieldsIn bytes frame listed → length (fields_text listed) ≤ 8192
fields_few bytes frame listed has =
    let p = has.1.parts in
    omega (arith, ap length p.4.fields.listed.spelled, p.4.text.few)

pub fields_each : (bytes : List ℕ) (frame : Frame) (listed : List FieldValue)
    → HasFieldsIn bytes frame listed → AllByRecursion IsField listed
fields_each bytes frame listed has = has.1.parts.4.fields.listed.each

-- a walk over the places of a frame's fields, at one of them
module _ (bytes : List ℕ) (places walked : List Field) (listed : List FieldValue) (f : Field)
    (are : ArePlacesOf bytes places listed)
    (so_far : map (λ (place : Field). place) walked ≡ take (length walked) places)
    (inside : length walked < length places)
    (there : f ≡ get_or places (length walked) f) where
  pub listed_there : field_at bytes f ≡ get_or listed (length walked) (field_at bytes f)
  listed_there =
      ap (field_at bytes) there
      ∙ sym (get_or-map (field_at bytes) places (length walked) f)
      ∙ ap (λ fs. get_or fs (length walked) (field_at bytes f)) are.said

  pub listed_inside : length walked < length listed
  listed_inside = omega (arith, inside, ap length are.said, length-map places (field_at bytes))

  pub next_place : IsPlace bytes f
  next_place = subst (IsPlace bytes) (sym there)
      (each_at (IsPlace bytes) places (length walked) f inside are.each)

  pub next_field : AllByRecursion IsField listed → IsField (field_at bytes f)
  next_field each = subst IsField (sym listed_there)
      (each_at IsField listed (length walked) (field_at bytes f) listed_inside each)

  pub front_said : map (field_at bytes) walked ≡ take (length walked) listed
  front_said =
      ap (map (field_at bytes)) (sym (map-id walked) ∙ so_far)
      ∙ map_take (field_at bytes) (length walked) places
      ∙ ap (take (length walked)) are.said

-- the fields so far, with the next one
pub next_said : (bytes : List ℕ) (walked : List Field) (f : Field) (text : List ℕ)
    → text ≡ (field_at bytes f).value
    → map (field_at bytes) walked ++ field f.tag text ∷ []
    ≡ map (field_at bytes) (walked ++ f ∷ [])
next_said bytes walked f text same =
    ap (λ t. map (field_at bytes) walked ++ field f.tag t ∷ []) same
    ∙ sym (map-append (field_at bytes) walked (f ∷ []))

-- all fields were walked
pub all_said : (bytes : List ℕ) (places walked : List Field) (listed : List FieldValue)
    → ArePlacesOf bytes places listed → map (λ (place : Field). place) walked ≡ places
    → map (field_at bytes) walked ≡ listed
all_said bytes places walked listed are all =
    ap (map (field_at bytes)) (sym (map-id walked) ∙ all) ∙ are.said
