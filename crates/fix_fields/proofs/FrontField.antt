-- The field in front of a text is read in one way.
use Rattle.std.proofs.Common.{◌≡◌, ℕ, ◌+◌, ◌-◌, ◌<◌, ◌==◌, List, [], ◌∷◌, ◌++◌, length}
use Rattle.std.proofs.Common.{take, drop}
use Rattle.std.proofs.Common.{refl, ap, sym, ◌∙◌, arith, zero, suc, true, false, Bool, decimal}
use Rattle.std.proofs.Common.{slice_index}
use Rattle.std.proofs.Common.{length-take, length-drop, subst, Some, None}
use Rattle.std.proofs.lemmas.List.{drop-drop, take_all}
use Rattle.std.proofs.Math.Seq.{drop-append-add}
use Rattle.std.specs.List.{list_all}
use Rattle.memchr.specs.Find.{Nowhere, Passes, IsFirstByte, is_byte}
use Rattle.fix_fields.specs.Fields.{field, soh, field_text, is_value_byte, IsField}
use Rattle.fix_fields.specs.FieldPlaces.{BeginsTag, BeginsField}
use Rattle.fix_fields.specs.Places.{field_at}
use Rattle.fix_fields.specs.declared.walk.Field.{Field}
use Rattle.fix_fields.proofs.Cuts.{cut_at, index_after}
use Rattle.fix_fields.proofs.FieldCuts.{one_tag}
use Rattle.fix_fields.proofs.FieldList.{regroup_field, one_field}

pub drop_past : (d : List ℕ) (c : ℕ) (rest : List ℕ) → drop (length d + 1) (d ++ c ∷ rest) ≡ rest
drop_past d c rest = drop-append-add d (c ∷ rest) 1

not_soh : (x : ℕ) (b : Bool) → (x == 1) ≡ b → (b ≡ true → ⊥) → is_value_byte x ≡ true
not_soh x true e h = absurd (h refl)
not_soh x false e h = rw e refl

-- before the first SOH stand bytes of a value
before_soh : (hay : List ℕ) (n : ℕ) → Nowhere (Passes (is_byte 1) hay) 0 n
    → list_all is_value_byte (take n hay) ≡ true
before_soh hay zero h = refl
before_soh [] (suc n) h = refl
before_soh (x ∷ hay) (suc n) h =
    let first = not_soh x (x == 1) refl (h 0 (omega arith) (omega arith)) in
    let rest = before_soh hay n (λ k _ l. h (suc k) (omega arith) (omega arith)) in
    rw first rest

-- a place in the text, from where a tag ends up to the next SOH
abbrev pub place_of : ℕ → ℕ → ℕ → Field
place_of tag from count = record { tag = tag; from = from; to = from + count }

module _ (text : List ℕ) (tag from count : ℕ) (h : BeginsTag text tag from) where
  abbrev rest : List ℕ
  rest = drop from text

  behind : drop (count + 1) rest ≡ drop (from + count + 1) text
  behind = drop-drop (count + 1) from text ∙ ap (λ n. drop n text) (omega arith)

  at_place : field_at text (place_of tag from count) ≡ field tag (take count rest)
  at_place = ap (λ n. field tag (take n rest)) (omega arith)

  pub field_there : IsFirstByte (is_byte 1) rest (Some count)
      → BeginsField text (place_of tag from count)
  field_there first =
      let inside : count < length rest = first.0.high in
      let ended : slice_index rest count ≡ soh = grind arith in
      let is : IsField (field tag (take count rest)) =
      record {
        least = h.least;
        most = h.most;
        without_soh = before_soh rest count first.0.before;
      } in
      let spelled : text ≡ field_text (field tag (take count rest)) ++ drop
      (from + count + 1) text =
      h.spelled ∙ ap (λ t. decimal tag ++ 61 ∷ t) (cut_at rest count soh inside ended
      ∙ ap (λ t. take count rest ++ soh ∷ t) behind)
      ∙ sym (regroup_field (field tag (take count rest)) (drop (from + count + 1) text)) in
      record {
        is_field = subst IsField (sym at_place) is;
        place = h.place;
        ordered = omega arith;
        inside = omega (arith, inside, length-drop from text, h.inside);
        spelled = subst (λ f. text ≡ field_text f ++ drop (from + count + 1) text)
            (sym at_place) spelled;
      }

-- what a field's place says of the text behind its tag
module _ (text : List ℕ) (f : Field) (h : BeginsField text f) where
  abbrev value : List ℕ
  value = take (f.to - f.from) (drop f.from text)

  flat : text ≡ decimal f.tag ++ (61 ∷ (value ++ (soh ∷ drop (f.to + 1) text)))
  flat = h.spelled ∙ regroup_field (field_at text f) (drop (f.to + 1) text)

  pub value_then_soh : drop f.from text ≡ value ++ (soh ∷ drop (f.to + 1) text)
  value_then_soh = ap (λ n. drop n text) h.place ∙ ap (drop (length (decimal f.tag) + 1)) flat
      ∙ drop_past (decimal f.tag) 61 (value ++ (soh ∷ drop (f.to + 1) text))

  pub tag_of_field : BeginsTag text f.tag f.from
  tag_of_field = record {
    least = h.is_field.least;
    most = h.is_field.most;
    place = h.place;
    inside = omega (arith, h.ordered, h.inside);
    spelled = flat ∙ ap (λ t. decimal f.tag ++ 61 ∷ t) (sym value_then_soh);
  }

  pub count_is : length value ≡ f.to - f.from
  count_is = omega (
    arith,
    length-take (f.to - f.from) (drop f.from text),
    length-drop f.from text,
    h.ordered,
    h.inside,
  )

  -- SOH stands behind the value
  pub no_soh : (from : ℕ) → from ≡ f.from → IsFirstByte (is_byte 1) (drop from text) None → ⊥
  no_soh from e none =
      let there : slice_index (drop f.from text) (f.to - f.from) ≡ soh =
      ap (λ t. slice_index t (f.to - f.from)) value_then_soh
      ∙ ap (slice_index (value ++ (soh ∷ drop (f.to + 1) text))) (sym count_is)
      ∙ index_after value soh (drop (f.to + 1) text) in
      let passes : Passes (is_byte 1) (drop f.from text) (f.to - f.from) = rw there refl in
      let none' = subst (λ n. Nowhere (Passes (is_byte 1) (drop n text)) 0 (length
      (drop n text))) e none in
      none' (f.to - f.from) (omega arith) (omega (
        arith,
        length-drop f.from text,
        h.ordered,
        h.inside,
      )) passes

-- what `&text[from..]` is in the code
pub rest_is : (text : List ℕ) (from : ℕ)
    → take (length text - from) (drop from text) ≡ drop from text
rest_is text from = take_all (length text - from) (drop from text) (omega (
  arith,
  length-drop from text,
))

pub no_soh_behind : (text : List ℕ) (tag from : ℕ) → BeginsTag text tag from
    → IsFirstByte (is_byte 1) (take (length text - from) (drop from text)) None
    → (f : Field) → BeginsField text f → ⊥
no_soh_behind text tag from begins none f h =
    no_soh text f h from (one_tag text tag from f.tag f.from begins (tag_of_field text f h)).from
    (subst (λ hay. IsFirstByte (is_byte 1) hay None) (rest_is text from) none)

pub soh_behind : (text : List ℕ) (tag from count : ℕ) → BeginsTag text tag from
    → IsFirstByte (is_byte 1) (take (length text - from) (drop from text)) (Some count)
    → BeginsField text (place_of tag from count)
soh_behind text tag from count begins first = field_there text tag from count begins
    (subst (λ hay. IsFirstByte (is_byte 1) hay (Some count)) (rest_is text from) first)

-- a text's first field stands at one place
pub one_place : (text : List ℕ) (f g : Field) → BeginsField text f → BeginsField text g → f ≡ g
one_place text f g h k =
    let tags = one_tag text f.tag f.from g.tag g.from (tag_of_field text f h)
    (tag_of_field text g k) in
    let fields = one_field (field_at text f) (field_at text g) (drop (f.to + 1) text) (drop
    (g.to + 1) text)
    h.is_field k.is_field (sym h.spelled ∙ k.spelled) in
    let sizes : length (value text f h) ≡ length (value text g k) =
    ap (λ v. length v.value) fields.0 in
    let to : f.to ≡ g.to = omega (
      arith,
      count_is text f h,
      count_is text g k,
      sizes,
      tags.from,
      h.ordered,
      k.ordered,
    ) in
    let place : ℕ → ℕ → ℕ → Field = λ tag from to. record { tag = tag; from = from; to = to } in
    ap (λ n. place n f.from f.to) tags.tag ∙ ap (λ n. place g.tag n f.to) tags.from
    ∙ ap (place g.tag g.from) to
