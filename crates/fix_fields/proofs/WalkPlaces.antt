-- A walk's places are those of the fields that its bytes spell.
use Rattle.std.proofs.Common.{◌≡◌, ℕ, ◌+◌, ◌-◌, ◌<◌, ◌≤◌, List, [], ◌∷◌, ◌++◌, length, take, drop}
use Rattle.std.proofs.Common.{refl, ap, sym}
use Rattle.std.proofs.Common.{◌∙◌, arith, zero, suc, Bool, true, false, cond, decimal, ◌^◌}
use Rattle.std.proofs.Common.{Some}
use Rattle.std.proofs.Common.{length-drop, length-take, subst, map, nat_le, append_assoc, sum}
use Rattle.std.proofs.lemmas.Fmt.{decimal_is_IsNumeral}
use Rattle.std.proofs.lemmas.List.{drop-drop, drop-take, take-take, take-append-drop}
use Rattle.std.proofs.lemmas.List.{drop-append-le}
use Rattle.std.proofs.lemmas.List.Sums.{sum-map}
use Rattle.std.proofs.Math.Seq.{take-append_seam}
use Rattle.std.specs.List.{list_all, prefix_len, count_by}
use Rattle.std.specs.Char.{is_ascii_digit}
use Rattle.std.specs.Iterator.{MakesProgress, YieldsFirst, item_count}
use Rattle.std.proofs.lemmas.Iterator.Consumers.{YieldsList-from_first}
use Rattle.std.proofs.lemmas.Iterator.{YieldsList}
use Rattle.std.specs.Str.Parse.{digits_value}
use Rattle.fix_fields.specs.Fields.{FieldValue, field, soh, is_value_byte, fields_text, AreFields}
use Rattle.fix_fields.specs.FieldPlaces.{BeginsField, IsFieldList}
use Rattle.fix_fields.specs.FieldWalks.{digits_at, value_length_at, field_from, places_from}
use Rattle.fix_fields.specs.FieldWalks.{places_between}
use Rattle.fix_fields.specs.FieldWalks.{WalksFields}
use Rattle.fix_fields.specs.Places.{field_at, IsPlace, ArePlacesOf}
use Rattle.fix_fields.specs.declared.walk.Field.{Field}
use Rattle.fix_fields.proofs.Cuts.{prefix_is}
use Rattle.fix_fields.proofs.FieldList.{decimal_digits, fields_text-cons}
use Rattle.fix_fields.proofs.FieldLists.{first_of, stands_in_front, front_place, list_step, no_list}
use Rattle.fix_fields.proofs.FrontField.{value_then_soh, count_is, tag_of_field}
use Rattle.std.proofs.lemmas.Bool.{and_parts}

-- a value and then SOH: so many bytes of a value stand in front
value_prefix : (value more : List ℕ) → list_all is_value_byte value ≡ true
    → prefix_len is_value_byte (value ++ soh ∷ more) ≡ length value
value_prefix [] more h = refl
value_prefix (x ∷ value) more h =
    let both = and_parts (is_value_byte x) (list_all is_value_byte value) h in
    rw both.0 (omega (arith, value_prefix value more both.1))

-- the bytes between two places
abbrev pub between : List ℕ → ℕ → ℕ → List ℕ
between bytes at end = take (end - at) (drop at bytes)

-- a field's place in the bytes, where it stands so in the text from a place on
abbrev pub placed : ℕ → Field → Field
placed at f = record { tag = f.tag; from = at + f.from; to = at + f.to }

pub between_is : (bytes : List ℕ) (at end n : ℕ) → n ≤ end - at
    → drop n (between bytes at end) ≡ between bytes (at + n) end
between_is bytes at end n h =
    let all : end - at ≡ n + (end - at - n) = omega arith in
    let left : end - at - n ≡ end - (at + n) = omega arith in
    ap (λ k. drop n (take k (drop at bytes))) all ∙ drop-take n (end - at - n) (drop at bytes)
    ∙ ap (λ t. take (end - at - n) t) (drop-drop n at bytes)
    ∙ ap (λ k. take k (drop (at + n) bytes)) left

pub between_size : (bytes : List ℕ) (at end : ℕ) → at ≤ end → end ≤ length bytes
    → length (between bytes at end) ≡ end - at
between_size bytes at end h k = omega (
  arith,
  length-take (end - at) (drop at bytes),
  length-drop at bytes,
)

-- how many more steps are allowed doesn't matter
next_if : (b : Bool) (f : Field) (xs ys : List Field) → (b ≡ false → xs ≡ ys)
    → cond b [] (f ∷ xs) ≡ cond b [] (f ∷ ys)
next_if true f xs ys same = refl
next_if false f xs ys same = ap (λ zs. f ∷ zs) (same refl)

none_if : (b : Bool) (f : Field) (xs : List Field) → b ≡ true → cond b [] (f ∷ xs) ≡ []
none_if b f xs e = rw e refl

behind : (end at : ℕ) → nat_le end at ≡ false → at < end
behind end at h = grind arith

over : (end at : ℕ) → end ≤ at → nat_le end at ≡ true
over end at h = grind arith

under : (end at : ℕ) → at < end → nat_le end at ≡ false
under end at h = grind arith

pub enough : (m n : ℕ) (bytes : List ℕ) (at end : ℕ) → end - at ≤ m → end - at ≤ n
    → places_from m bytes at end ≡ places_from n bytes at end
unfolding places_from
enough zero zero bytes at end h k = refl
enough zero (suc n) bytes at end h k = sym (none_if (nat_le end at) (field_from bytes at)
    (places_from n bytes ((field_from bytes at).to + 1) end) (over end at (omega arith)))
enough (suc m) zero bytes at end h k = none_if (nat_le end at) (field_from bytes at)
    (places_from m bytes ((field_from bytes at).to + 1) end) (over end at (omega arith))
enough (suc m) (suc n) bytes at end h k = next_if (nat_le end at) (field_from bytes at)
    (places_from m bytes ((field_from bytes at).to + 1) end)
    (places_from n bytes ((field_from bytes at).to + 1) end)
    (λ e. let left = behind end at e in
    enough m n bytes ((field_from bytes at).to + 1) end (omega arith) (omega arith))

first_if : (b : Bool) (f : Field) (xs : List Field) → b ≡ false → cond b [] (f ∷ xs) ≡ f ∷ xs
first_if b f xs e = rw e refl

-- nothing is left at the end
pub places_end : (bytes : List ℕ) (at end : ℕ) → end ≤ at → places_between bytes at end ≡ []
unfolding places_from
places_end bytes at end h =
    let none : end - at ≡ 0 = omega arith in ap (λ n. places_from n bytes at end) none

-- the first of what is left, and the others
first_step : (n : ℕ) (bytes : List ℕ) (at end : ℕ) → at < end → end - at ≤ suc n
    → places_from (suc n) bytes at end
    ≡ field_from bytes at ∷ places_between bytes ((field_from bytes at).to + 1) end
unfolding places_from
first_step n bytes at end h k =
    first_if (nat_le end at) (field_from bytes at) (places_from n bytes
    ((field_from bytes at).to + 1) end)
    (under end at h)
    ∙ ap (λ xs. field_from bytes at ∷ xs)
    (enough n (end - ((field_from bytes at).to + 1)) bytes ((field_from bytes at).to + 1) end
    (omega arith) (omega arith))

pub places_first : (bytes : List ℕ) (at end : ℕ) → at < end
    → places_between bytes at end
    ≡ field_from bytes at ∷ places_between bytes ((field_from bytes at).to + 1) end
places_first bytes at end h =
    let more : end - at ≡ suc (end - at - 1) = omega arith in
    ap (λ n. places_from n bytes at end) more
    ∙ first_step (end - at - 1) bytes at end h (omega arith)

-- where a field stands in front of the bytes between two places
module _ (bytes : List ℕ) (at end : ℕ) (ordered : at ≤ end) (inside : end ≤ length bytes)
    (f : Field) (h : BeginsField (between bytes at end) f) where
  abbrev text : List ℕ
  text = between bytes at end

  abbrev rest : List ℕ
  rest = drop (end - at) (drop at bytes)

  size : length text ≡ end - at
  size = between_size bytes at end ordered inside

  whole : drop at bytes ≡ text ++ rest
  whole = sym (take-append-drop (end - at) (drop at bytes))

  small : f.tag < 2 ^ 64
  small = omega (arith, h.is_field.most)

  tagged : drop at bytes ≡ decimal f.tag ++ 61 ∷ (drop f.from text ++ rest)
  tagged = whole ∙ ap (λ t. t ++ rest) (tag_of_field text f h).spelled
      ∙ append_assoc (decimal f.tag) (61 ∷ drop f.from text) rest

  digits : digits_at bytes at ≡ length (decimal f.tag)
  digits = ap (prefix_len is_ascii_digit) tagged
      ∙ prefix_is (decimal f.tag) 61 (drop f.from text ++ rest) refl (decimal_digits f.tag small)

  tag_same : digits_value 10 (take (digits_at bytes at) (drop at bytes)) ≡ f.tag
  tag_same = ap (λ n. digits_value 10 (take n (drop at bytes))) digits
      ∙ ap (λ t. digits_value 10 (take (length (decimal f.tag)) t)) tagged
      ∙ ap (digits_value 10) (take-append_seam (decimal f.tag) (61 ∷ (drop f.from text ++ rest)))
      ∙ (decimal_is_IsNumeral f.tag small).1

  from_same : at + digits_at bytes at + 1 ≡ at + f.from
  from_same = omega (arith, digits, h.place)

  abbrev behind_value : List ℕ
  behind_value = drop (f.to + 1) text

  valued : drop (at + f.from) bytes ≡ take (f.to - f.from) (drop f.from text) ++ soh ∷
      (behind_value ++ rest)
  valued = sym (drop-drop f.from at bytes) ∙ ap (drop f.from) whole
      ∙ drop-append-le f.from text rest (omega (arith, h.ordered, h.inside))
      ∙ ap (λ t. t ++ rest) (value_then_soh text f h)
      ∙ append_assoc (take (f.to - f.from) (drop f.from text)) (soh ∷ behind_value) rest

  value_same : value_length_at bytes (at + f.from) ≡ f.to - f.from
  value_same = ap (prefix_len is_value_byte) valued
      ∙ value_prefix (take (f.to - f.from) (drop f.from text))
      (behind_value ++ rest) h.is_field.without_soh
      ∙ count_is text f h

  to_same : at + digits_at bytes at + 1 + value_length_at bytes
      (at + digits_at bytes at + 1) ≡ at + f.to
  to_same = ap (λ n. n + value_length_at bytes n) from_same ∙ omega (arith, value_same, h.ordered)

  -- the walk's next field is the one that stands there
  pub field_is : field_from bytes at ≡ placed at f
  field_is =
      let make : ℕ → ℕ → ℕ → Field = λ tag from to. record { tag = tag; from = from; to = to } in
      let from = at + digits_at bytes at + 1 in
      ap (λ t. make t from (from + value_length_at bytes from)) tag_same
      ∙ ap (λ n. make f.tag n (from + value_length_at bytes from)) from_same
      ∙ ap (make f.tag (at + f.from)) to_same

  pub walk_step : places_between bytes at end ≡ placed at f ∷ places_between bytes
      (at + f.to + 1) end
  walk_step = places_first bytes at end (omega (arith, h.inside, size))
      ∙ ap (λ g. g ∷ places_between bytes (g.to + 1) end) field_is

  pub others_are : drop (f.to + 1) text ≡ between bytes (at + f.to + 1) end
  others_are =
      let place : at + (f.to + 1) ≡ at + f.to + 1 = omega arith in
      between_is bytes at end (f.to + 1) (omega (arith, h.inside, size))
      ∙ ap (λ n. between bytes n end) place

  pub walk_on : IsFieldList text → WalksFields bytes (at + f.to + 1) end
  walk_on l = record {
    ordered = omega (arith, h.inside, size);
    inside = inside;
    are_fields = subst IsFieldList others_are ((list_step text f h).0 l);
  }

  pub is_place : IsPlace bytes (placed at f)
  is_place = record { ordered = omega (arith, h.ordered); within = omega (arith, h.inside, size) }

  pub said_there : field_at bytes (placed at f) ≡ field_at text f
  said_there =
      let count : at + f.to - (at + f.from) ≡ f.to - f.from = omega arith in
      let near : drop f.from text ≡ between bytes (at + f.from) end =
      between_is bytes at end f.from (omega (arith, h.ordered, h.inside, size)) in
      ap (λ n. field f.tag (take n (drop (at + f.from) bytes))) count
      ∙ ap (field f.tag) (sym (take-take (f.to - f.from) (end - (at + f.from)) (drop
      (at + f.from) bytes)
      (omega (arith, h.ordered, h.inside, size))))
      ∙ ap (λ t. field f.tag (take (f.to - f.from) t)) (sym near)

-- where no field stands in front, the walk is at its end
pub walk_end : (bytes : List ℕ) (at end : ℕ) → WalksFields bytes at end
    → ((f : Field) → BeginsField (between bytes at end) f → ⊥) → places_between bytes at end ≡ []
walk_end bytes at end w none = places_end bytes at end (by_size (length
    (between bytes at end)) refl)
  where
    by_size : (n : ℕ) → length (between bytes at end) ≡ n → end ≤ at
    by_size zero e = omega (arith, between_size bytes at end w.ordered w.inside)
    by_size (suc n) e =
        absurd (no_list (between bytes at end) (omega arith) none w.are_fields.0 w.are_fields.1)

-- the places between two places say the fields that stand there
pub places_are : (fs : List FieldValue) (bytes : List ℕ) (at end : ℕ) → at ≤ end
    → end ≤ length bytes
    → AreFields (between bytes at end) fs → ArePlacesOf bytes (places_between bytes at end) fs
places_are [] bytes at end h k are =
    let size = between_size bytes at end h k in
    let none : end ≤ at = omega (arith, ap length are.spelled) in
    subst (λ ps. ArePlacesOf bytes ps []) (sym (places_end bytes at end none)) record {
      each =
          tt;
      said = refl;
    }
places_are (g ∷ gs) bytes at end h k are =
    let text = between bytes at end in
    let f = front_place g in
    let front = stands_in_front text g (fields_text gs) are.each.0 (are.spelled
    ∙ fields_text-cons g gs) in
    let size = between_size bytes at end h k in
    let others = subst (λ t. AreFields t gs) (others_are bytes at end h k f front.begins)
    (first_of text f g gs front.begins are).others in
    let rest = places_are gs bytes (at + f.to + 1) end (omega (
      arith,
      front.begins.inside,
    )) k others in
    let said : field_at bytes (placed at f) ≡ g = said_there bytes at end h k f front.begins
    ∙ front.says in
    subst (λ ps. ArePlacesOf bytes ps (g ∷ gs)) (sym
    (walk_step bytes at end h k f front.begins)) record {
      each = (is_place bytes at end h k f front.begins, rest.each);
      said = ap (λ x. x ∷ map (field_at bytes) (places_between bytes (at + f.to + 1) end)) said
          ∙ ap (λ xs. g ∷ xs) rest.said;
    }

-- a call of `next` that gave the first place left
pub goes_first : (can : List Field → Type 0) → ((l : List Field) → can l)
    → (s t : List Field) (x : Field)
    → s ≡ x ∷ t → MakesProgress can (item_count (λ rest. rest)) s (Some x) t
goes_first can always s t x e = record {
  on = λ _. (always t, tt, subst (λ l. length t < length l) (sym e) (omega arith));
  keeps = always t;
  rests = λ _. tt;
}

few_if : (b : Bool) (f : Field) (xs : List Field) (n : ℕ) → length xs ≤ n
    → length (cond b [] (f ∷ xs)) ≤ suc n
few_if true f xs n h = omega arith
few_if false f xs n h = omega arith

-- no more places are left than bytes
pub places_few : (n : ℕ) (bytes : List ℕ) (at end : ℕ) → length (places_from n bytes at end) ≤ n
unfolding places_from
places_few zero bytes at end = omega arith
places_few (suc n) bytes at end = few_if (nat_le end at) (field_from bytes at)
    (places_from n bytes ((field_from bytes at).to + 1) end) n
    (places_few n bytes ((field_from bytes at).to + 1) end)

-- a `for` over a walk yields the places that the walk has left
pub walked : (walk places : List Field) → walk ≡ places
    → YieldsList (YieldsFirst (λ rest. rest)) (λ place. place) walk places
walked walk places e = YieldsList-from_first (λ place. place) (λ rest. rest) places e

map_twice : (f : FieldValue → ℕ) (g : Field → FieldValue) (places : List Field)
    → map f (map g places) ≡ map (λ place. f (g place)) places
map_twice f g [] = refl
map_twice f g (place ∷ places) = ap (λ xs. f (g place) ∷ xs) (map_twice f g places)

-- a test of tags counts as many places as fields
pub count_of_said : (p : ℕ → Bool) (bytes : List ℕ) (places : List Field) (fields : List FieldValue)
    → ArePlacesOf bytes places fields
    → count_by (λ place. p place.tag) places ≡ count_by (λ f. p f.tag) fields
count_of_said p bytes places fields are =
    let one : FieldValue → ℕ = λ f. cond (p f.tag) 1 0 in
    sym (sum-map (λ place. one (field_at bytes place)) places)
    ∙ ap sum (sym (map_twice one (field_at bytes) places))
    ∙ sum-map one (map (field_at bytes) places)
    ∙ ap (count_by (λ f. p f.tag)) are.said
