-- A text is at most one list of fields.
use Rattle.std.proofs.Common.{◌≡◌, ℕ, ◌<◌, ◌^◌, List, [], ◌∷◌, ◌++◌, length, refl}
use Rattle.std.proofs.Common.{ap, sym}
use Rattle.std.proofs.Common.{◌∙◌, arith, Bool, true, false, ◌&&◌, append_assoc, length-append}
use Rattle.std.proofs.Common.{decimal}
use Rattle.std.proofs.lemmas.Fmt.{decimal_is_IsNumeral, decimal_injective}
use Rattle.std.proofs.lemmas.List.Concat.{flat_map-cons}
use Rattle.std.proofs.lemmas.Str.Parse.{IsDigitsTest, IsNumeralModel, numerals_by_value}
use Rattle.std.specs.Int.{IsInRange}
use Rattle.std.specs.List.{list_all, AllByRecursion}
use Rattle.std.specs.Char.{is_ascii_digit}
use Rattle.std.specs.Str.Parse.{digits_value}
use Rattle.fix_fields.specs.Fields.{soh, FieldValue, field, field_text, fields_text, is_value_byte}
use Rattle.fix_fields.specs.Fields.{IsField, AreFields}
use Rattle.std.proofs.lemmas.Bool.{and_parts}

-- what passes the test before a byte that fails it is cut in one way
pub one_split : (p : ℕ → Bool) (c : ℕ) → p c ≡ false → (d e x y : List ℕ)
    → list_all p d ≡ true → list_all p e ≡ true → d ++ c ∷ x ≡ e ++ c ∷ y → (d ≡ e) × (x ≡ y)
one_split p c fails [] [] x y h k same = (refl, cc)
one_split p c fails [] (b ∷ e) x y h k same =
    let first : c ≡ b = cc in
    let yes = (and_parts (p b) (list_all p e) k).0 in
    let bad : false ≡ true = sym fails ∙ ap p first ∙ yes in absurd cc
one_split p c fails (a ∷ d) [] x y h k same =
    let first : c ≡ a = cc in
    let yes = (and_parts (p a) (list_all p d) h).0 in
    let bad : false ≡ true = sym fails ∙ ap p first ∙ yes in absurd cc
one_split p c fails (a ∷ d) (b ∷ e) x y h k same =
    let rest = one_split p c fails d e x y (and_parts (p a) (list_all p d) h).1
    (and_parts (p b) (list_all p e) k).1 cc in
    (let first : a ≡ b = cc in cc, rest.1)

in_range : (c : ℕ) → is_ascii_digit c ≡ true → IsInRange 48 57 c
in_range c h = (grind arith, grind arith)

in_order : (c : ℕ) → IsInRange 48 57 c → is_ascii_digit c ≡ true
in_order c h = grind arith

and_true : (a b : Bool) → a ≡ true → b ≡ true → (a && b) ≡ true
and_true a b h k = grind arith

tells_digits : IsDigitsTest (λ ds. list_all is_ascii_digit ds ≡ true)
tells_digits = record {
  empty = refl;
  parts = λ c cs e. let k = and_parts (is_ascii_digit c) (list_all is_ascii_digit cs) e in
      (in_range c k.0, k.1);
  more = λ c cs k e. and_true (is_ascii_digit c) (list_all is_ascii_digit cs) (in_order c k) e;
}

-- digits and their number in std's words
pub numerals : IsNumeralModel (λ ds. list_all is_ascii_digit ds ≡ true) (digits_value 10)
numerals = numerals_by_value (λ ds. list_all is_ascii_digit ds ≡ true) tells_digits

pub decimal_digits : (n : ℕ) → n < 2 ^ 64 → list_all is_ascii_digit (decimal n) ≡ true
decimal_digits n h = numerals.from (decimal n) (decimal_is_IsNumeral n h).0.1

regroup_lists : (d v x : List ℕ) (e s : ℕ)
    → ((d ++ (e ∷ v)) ++ (s ∷ [])) ++ x ≡ d ++ (e ∷ (v ++ (s ∷ x)))
regroup_lists d v x e s = simp append_assoc

-- a field's text, regrouped
pub regroup_field : (f : FieldValue) (x : List ℕ)
    → field_text f ++ x ≡ decimal f.tag ++ (61 ∷ (f.value ++ (soh ∷ x)))
regroup_field f x = regroup_lists (decimal f.tag) f.value x 61 soh

-- a text begins with at most one field
pub one_field : (f g : FieldValue) (x y : List ℕ) → IsField f → IsField g
    → field_text f ++ x ≡ field_text g ++ y → (f ≡ g) × (x ≡ y)
one_field f g x y h k same =
    let flat = sym (regroup_field f x) ∙ same ∙ regroup_field g y in
    let small : f.tag < 2 ^ 64 = omega (arith, h.most) in
    let small' : g.tag < 2 ^ 64 = omega (arith, k.most) in
    let tags = one_split is_ascii_digit 61 refl (decimal f.tag) (decimal g.tag)
    (f.value ++ (soh ∷ x)) (g.value ++ (soh ∷ y))
    (decimal_digits f.tag small) (decimal_digits g.tag small') flat in
    let values = one_split is_value_byte soh refl f.value g.value x y h.without_soh k.without_soh
    tags.1 in
    let tag = decimal_injective f.tag g.tag small small' tags.0 in
    (ap (λ t. field t f.value) tag ∙ ap (λ v. field g.tag v) values.0, values.1)

-- a field's text isn't empty
pub field_some : (f : FieldValue) (x : List ℕ) → 0 < length (field_text f ++ x)
field_some f x =
    let flat = ap length (regroup_field f x) in
    let parts = length-append (decimal f.tag) (61 ∷ (f.value ++ (soh ∷ x))) in
    omega arith

-- the text of a list that begins with a field
pub fields_text-cons : (f : FieldValue) (fs : List FieldValue)
    → fields_text (f ∷ fs) ≡ field_text f ++ fields_text fs
fields_text-cons f fs = flat_map-cons field_text f fs

cons_some : (f : FieldValue) (fs : List FieldValue) → 0 < length (fields_text (f ∷ fs))
cons_some f fs = rw fields_text-cons (field_some f (fields_text fs))

lists_same : (fs gs : List FieldValue) → AllByRecursion IsField fs → AllByRecursion IsField gs
    → fields_text fs ≡ fields_text gs → fs ≡ gs
lists_same [] [] h k same = refl
lists_same [] (g ∷ gs) h k same = absurd (omega (arith, cons_some g gs, ap length same))
lists_same (f ∷ fs) [] h k same = absurd (omega (arith, cons_some f fs, ap length same))
lists_same (f ∷ fs) (g ∷ gs) h k same =
    let first = one_field f g (fields_text fs) (fields_text gs) h.0 k.0
    (sym (fields_text-cons f fs) ∙ same ∙ fields_text-cons g gs) in
    ap (λ x. x ∷ fs) first.0 ∙ ap (λ xs. g ∷ xs) (lists_same fs gs h.1 k.1 first.1)

-- a text is at most one list of fields
pub one_list : (text : List ℕ) (fs gs : List FieldValue) → AreFields text fs → AreFields text gs
    → fs ≡ gs
one_list text fs gs h k = lists_same fs gs h.each k.each (sym h.spelled ∙ k.spelled)
