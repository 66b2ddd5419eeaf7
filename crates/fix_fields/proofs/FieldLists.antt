-- A list of fields is read one field after another.
use Rattle.std.proofs.Common.{◌≡◌, ◌≢◌, ℕ, ◌+◌, ◌-◌, ◌<◌, List, [], ◌∷◌, ◌++◌, length, take}
use Rattle.std.proofs.Common.{drop}
use Rattle.std.proofs.Common.{refl, ap, sym, ◌∙◌, arith, decimal, length-append, length-take}
use Rattle.std.proofs.Common.{length-drop}
use Rattle.std.proofs.Common.{subst, Some, None, ◌↔◌, Option, Bool, true, false, IsTrue, is_some}
use Rattle.std.proofs.lemmas.List.{drop-drop}
use Rattle.std.proofs.Math.Seq.{take-append_seam}
use Rattle.std.specs.Str.Parse.{digits_value}
use Rattle.fix_fields.specs.Fields.{FieldValue, field, soh, field_text, fields_text, IsField}
use Rattle.fix_fields.specs.Fields.{AreFields}
use Rattle.fix_fields.specs.Fields.{checksum_of}
use Rattle.fix_fields.specs.FieldPlaces.{BeginsField, BeginsKind, IsFieldList}
use Rattle.fix_fields.specs.Frames.{HasFields}
use Rattle.fix_fields.specs.Places.{field_at}
use Rattle.fix_fields.specs.declared.walk.Field.{Field}
use Rattle.fix_fields.proofs.FieldList.{regroup_field, one_field, fields_text-cons}
use Rattle.fix_fields.proofs.FrontField.{place_of, drop_past, one_place}

-- where a field stands that a text begins with
abbrev pub front_place : FieldValue → Field
front_place f = place_of f.tag (length (decimal f.tag) + 1) (length f.value)

-- the text begins with this field, and goes on with `more`
pub record StandsInFront (text : List ℕ) (f : FieldValue) (more : List ℕ) : Type 0 where
  pub begins : BeginsField text (front_place f)
  pub says : field_at text (front_place f) ≡ f
  pub behind : drop (length (decimal f.tag) + 1 + length f.value + 1) text ≡ more

pub stands_in_front : (text : List ℕ) (f : FieldValue) (more : List ℕ) → IsField f
    → text ≡ field_text f ++ more → StandsInFront text f more
stands_in_front text f more is spelled =
    let from = length (decimal f.tag) + 1 in
    let count = length f.value in
    let flat : text ≡ decimal f.tag ++ (61 ∷ (f.value ++ (soh ∷ more))) = spelled
    ∙ regroup_field f more in
    let rest : drop from text ≡ f.value ++ (soh ∷ more) =
    ap (drop from) flat ∙ drop_past (decimal f.tag) 61 (f.value ++ (soh ∷ more)) in
    let value : take (from + count - from) (drop from text) ≡ f.value =
    ap (λ n. take n (drop from text)) (omega arith) ∙ ap (take count) rest
    ∙ take-append_seam f.value (soh ∷ more) in
    let says : field_at text (front_place f) ≡ f = ap (λ v. field f.tag v) value in
    let behind : drop (from + count + 1) text ≡ more =
    ap (λ n. drop n text) (omega arith) ∙ sym (drop-drop (count + 1) from text)
    ∙ ap (drop (count + 1)) rest ∙ drop_past f.value soh more in
    let size = ap length flat ∙ length-append (decimal f.tag) (61 ∷ (f.value ++ (soh ∷ more))) in
    let size' = length-append f.value (soh ∷ more) in
    record {
      begins = record {
        is_field = subst IsField (sym says) is;
        place = refl;
        ordered = omega arith;
        inside = omega arith;
        spelled = spelled ∙ ap (λ m. field_text f ++ m) (sym behind)
            ∙ ap (λ g. field_text g ++ drop (from + count + 1) text) (sym says);
      };
      says = says;
      behind = behind;
    }

-- the field in front of a text is the first of its list, and the others are that of the rest
pub record IsFirstOf (text : List ℕ) (f : Field) (g : FieldValue)
    (gs : List FieldValue) : Type 0 where
  pub first : field_at text f ≡ g
  pub others : AreFields (drop (f.to + 1) text) gs

pub first_of : (text : List ℕ) (f : Field) (g : FieldValue) (gs : List FieldValue)
    → BeginsField text f → AreFields text (g ∷ gs) → IsFirstOf text f g gs
first_of text f g gs h are =
    let same = one_field (field_at text f) g (drop (f.to + 1) text)
    (fields_text gs) h.is_field are.each.0
    (sym h.spelled ∙ are.spelled ∙ fields_text-cons g gs) in
    record { first = same.0; others = record { each = are.each.1; spelled = same.1 } }

pub not_empty : (text : List ℕ) → 0 < length text → AreFields text [] → ⊥
not_empty text some are = omega (arith, ap length are.spelled)

list_tail : (text : List ℕ) (f : Field) → BeginsField text f → (fs : List FieldValue)
    → AreFields text fs → IsFieldList (drop (f.to + 1) text)
list_tail text f h [] are = absurd (not_empty text (omega (arith, h.inside)) are)
list_tail text f h (g ∷ gs) are = (gs, (first_of text f g gs h are).others)

list_more : (text : List ℕ) (f : Field) → BeginsField text f → (fs : List FieldValue)
    → AreFields (drop (f.to + 1) text) fs → IsFieldList text
list_more text f h fs are = (
  field_at text f ∷ fs,
  record {
    each = (h.is_field, are.each);
    spelled = h.spelled ∙ ap (λ t. field_text (field_at text f) ++ t) are.spelled
        ∙ sym (fields_text-cons (field_at text f) fs);
  },
)

-- one field more is read
pub list_step : (text : List ℕ) (f : Field) → BeginsField text f
    → IsFieldList text ↔ IsFieldList (drop (f.to + 1) text)
list_step text f h = (λ l. list_tail text f h l.0 l.1, λ l. list_more text f h l.0 l.1)

-- the empty text is no fields
pub empty_list : (text : List ℕ) → length text ≡ 0 → IsFieldList text
empty_list [] e = ([], record { each = tt; spelled = refl })
empty_list (x ∷ text) e = absurd (omega arith)

-- where no field stands in front, the text is none or is empty
pub no_list : (text : List ℕ) → 0 < length text → ((f : Field) → BeginsField text f → ⊥)
    → (fs : List FieldValue) → AreFields text fs → ⊥
no_list text some none [] are = not_empty text some are
no_list text some none (g ∷ gs) are = none (front_place g)
    (stands_in_front text g (fields_text gs) are.each.0 (are.spelled
    ∙ fields_text-cons g gs)).begins

-- a list of fields whose first is MsgType (35) with a value
pub has_kind : (text : List ℕ) (f : Field) → BeginsKind text f → (fs : List FieldValue)
    → AreFields text fs
    → (value : List ℕ) × (others : List FieldValue) × (value ≢ []) × (fs ≡ field 35 value ∷ others)
has_kind text f h [] are = absurd (not_empty text (omega (arith, h.begins.inside)) are)
has_kind text f h (g ∷ gs) are =
    let value = take (f.to - f.from) (drop f.from text) in
    let size = length-take (f.to - f.from) (drop f.from text) in
    let size' = length-drop f.from text in
    let some : 0 < length value = omega (arith, h.some, h.begins.inside) in (
      value,
      gs,
      λ e. omega (arith, ap length e),
      ap (λ x. x ∷ gs) (sym (first_of text f g gs h.begins are).first
          ∙ ap (λ t. field t value) h.kind),
    )

kind_there : (text value : List ℕ) (others : List FieldValue) → value ≢ []
    → AreFields text (field 35 value ∷ others) → (f : Field) × BeginsKind text f
kind_there text [] others some are = absurd (some refl)
kind_there text (x ∷ value) others some are =
    let f = field 35 (x ∷ value) in
    let front = stands_in_front text f (fields_text others) are.each.0
    (are.spelled ∙ fields_text-cons f others) in
    (front_place f, record { begins = front.begins; kind = refl; some = omega arith })

-- what makes a frame sound, and what doesn't
module _ (before sum_digits body : List ℕ) where
  pub sound : digits_value 10 sum_digits ≡ checksum_of before → (f : Field) → BeginsKind body f
      → (fs : List FieldValue) → AreFields body fs → HasFields before sum_digits body (Some fs)
  sound sum f kind fs are = record { sum = sum; listed = are; kind = has_kind body f kind fs are }

  pub no_sum : (digits_value 10 sum_digits ≡ checksum_of before → ⊥)
      → HasFields before sum_digits body None
  no_sum wrong = λ fs is. wrong is.sum

  pub no_kind : ((f : Field) × BeginsKind body f → ⊥) → HasFields before sum_digits body None
  no_kind wrong = λ fs is. wrong (kind_there body is.kind.0 is.kind.1 is.kind.2
      (subst (AreFields body) is.kind.3 is.listed))

  pub no_fields : (IsFieldList body → ⊥) → HasFields before sum_digits body None
  no_fields wrong = λ fs is. wrong (fs, is.listed)

  -- a frame of the right sum and kind is sound where its body is fields
  pub sound_if : (b : Bool) → (IsTrue b ↔ IsFieldList body)
      → digits_value 10 sum_digits ≡ checksum_of before → (f : Field) × BeginsKind body f
      → (fields : Option (List FieldValue)) × HasFields before sum_digits body fields ×
      (b ≡ is_some fields)
  sound_if true is sum kind = let l = is.0 refl in (Some l.0, sound sum kind.0 kind.1 l.0 l.1, refl)
  sound_if false is sum kind =
      let wrong : IsFieldList body → ⊥ = λ l. let yes : false ≡ true = is.1 l in cc in
      (None, no_fields wrong, refl)

-- the field in front is MsgType (35) with a value, or the text doesn't begin so
pub kind_if : (text : List ℕ) (f : Field) (b : Bool) → BeginsField text f
    → (IsTrue b ↔ ((f.tag ≡ 35) × (f.from < f.to))) → IsTrue b ↔ ((g : Field) × BeginsKind text g)
kind_if text f b h is = (
  λ yes. (f, record { begins = h; kind = (is.0 yes).0; some = (is.0 yes).1 }),
  λ k. let same = one_place text f k.0 h k.1.begins in
      let tag : f.tag ≡ 35 = ap (λ g. g.tag) same ∙ k.1.kind in
      let some : f.from < f.to = omega (
        arith,
        k.1.some,
        ap (λ g. g.from) same,
        ap (λ g. g.to) same,
      ) in
      is.1 (tag, some),
)
