-- One field more is added to the slot of its tag, and to no other.
use Rattle.std.proofs.Common.{◌≡◌, ◌≢◌, ℕ, ◌<◌, ◌==◌, List, [], ◌∷◌, ◌++◌, length, refl, sym, ap, ◌∙◌}
use Rattle.std.proofs.Common.{subst, zero, suc, Bool, true, false, arith, get_or, eq-eqb, inl, inr}
use Rattle.std.specs.Prelude.{Some, None, if◌then◌else◌}
use Rattle.std.specs.List.{position}
use Rattle.std.proofs.Math.ListN.{set}
use Rattle.std.proofs.lemmas.Bool.Decides.{eqb_tells, Decides-eqb}
use Rattle.std.proofs.lemmas.List.{append-nil, get_or-set_same, get_or-set_other}
use Rattle.std.proofs.lemmas.List.Quantifiers.{position-Some}
use Rattle.fix_fields.specs.Fields.{FieldValue, field}
use Rattle.fix_orders.specs.declared.slots.Slot.{Slot}
use Rattle.fix_orders.specs.declared.slots.Slot.TheVariants.{Absent}
use Rattle.fix_orders.specs.Faults.{values_of}
use Rattle.fix_orders.specs.Slotted.{SlotHas}
use Rattle.fix_orders.specs.Table.{table, row_at}

-- the place of a row's tag is the row's
pub place_of_row : (place : ℕ) → place < 16
    → position (λ r. r.tag == (row_at place).tag) table ≡ Some place
place_of_row zero h = refl
place_of_row (suc zero) h = refl
place_of_row (suc (suc zero)) h = refl
place_of_row (suc (suc (suc zero))) h = refl
place_of_row (suc (suc (suc (suc zero)))) h = refl
place_of_row (suc (suc (suc (suc (suc zero))))) h = refl
place_of_row (suc (suc (suc (suc (suc (suc zero)))))) h = refl
place_of_row (suc (suc (suc (suc (suc (suc (suc zero))))))) h = refl
place_of_row (suc (suc (suc (suc (suc (suc (suc (suc zero)))))))) h = refl
place_of_row (suc (suc (suc (suc (suc (suc (suc (suc (suc zero))))))))) h = refl
place_of_row (suc (suc (suc (suc (suc (suc (suc (suc (suc (suc zero)))))))))) h = refl
place_of_row (suc (suc (suc (suc (suc (suc (suc (suc (suc (suc (suc zero))))))))))) h = refl
place_of_row (suc (suc (suc (suc (suc (suc (suc (suc (suc (suc (suc (suc zero)))))))))))) h = refl
place_of_row (suc (suc (suc (suc (suc (suc (suc (suc (suc (suc (suc (suc (suc zero))))))))))))) h = refl
place_of_row (suc (suc (suc (suc (suc (suc (suc (suc (suc (suc (suc (suc (suc (suc zero)))))))))))))) h = refl
place_of_row (suc (suc (suc (suc (suc (suc (suc (suc (suc (suc (suc (suc (suc (suc (suc zero))))))))))))))) h = refl
place_of_row (suc (suc (suc (suc (suc (suc (suc (suc (suc (suc (suc (suc (suc (suc (suc (suc n)))))))))))))))) h = absurd (omega arith)

push_by : (same : Bool) (value : List ℕ) (values : List (List ℕ)) (other : Bool) (v : List ℕ)
    → (if other then v ∷ (values ++ (if same then value ∷ [] else []))
    else values ++ (if same then value ∷ [] else []))
    ≡ (if other then v ∷ values else values) ++ (if same then value ∷ [] else [])
push_by same value values true v = refl
push_by same value values false v = refl

-- the values with one field more
values_push : (tag : ℕ) (fields : List FieldValue) (f : FieldValue)
    → values_of tag (fields ++ f ∷ [])
    ≡ values_of tag fields ++ (if f.tag == tag then f.value ∷ [] else [])
values_push tag [] f = refl
values_push tag (g ∷ fields) f =
    ap (λ vs. if g.tag == tag then g.value ∷ vs else vs) (values_push tag fields f)
    ∙ push_by (f.tag == tag) f.value (values_of tag fields) (g.tag == tag) g.value

pub values_more : (tag : ℕ) (fields : List FieldValue) (f : FieldValue) → (f.tag == tag) ≡ true
    → values_of tag (fields ++ f ∷ []) ≡ values_of tag fields ++ f.value ∷ []
values_more tag fields f same = values_push tag fields f
    ∙ ap (λ b. values_of tag fields ++ (if b then f.value ∷ [] else [])) same

pub values_same : (tag : ℕ) (fields : List FieldValue) (f : FieldValue) → (f.tag == tag) ≡ false
    → values_of tag (fields ++ f ∷ []) ≡ values_of tag fields
values_same tag fields f other = values_push tag fields f
    ∙ ap (λ b. values_of tag fields ++ (if b then f.value ∷ [] else [])) other
    ∙ append-nil (values_of tag fields)

one_place : (a b : ℕ) → Some a ≡ Some b → a ≡ b
one_place a b e = cc

no_place : (a : ℕ) → None ≡ Some a → ⊥
no_place a e = cc

-- the slots of other tags stay
module _ (slots : List Slot) (tag : ℕ) (text : List ℕ) (listed : List FieldValue)
    (has : (k : ℕ) → k < 16 → SlotHas (get_or slots k Absent) (values_of (row_at k).tag listed))
  where
    abbrev More : ℕ → Slot → Type 0
    More k slot = SlotHas slot (values_of (row_at k).tag (listed ++ field tag text ∷ []))

    stays : (k : ℕ) → k < 16 → (tag == (row_at k).tag) ≡ false → More k (get_or slots k Absent)
    stays k below other =
        let P : List (List ℕ) → Type 0 = λ vs. SlotHas (get_or slots k Absent) vs in
        subst P (sym (values_same (row_at k).tag listed (field tag text) other)) (has k below)

    pub none_added : position (λ r. r.tag == tag) table ≡ None
        → (k : ℕ) → k < 16 → More k (get_or slots k Absent)
    none_added none k below =
        elim (eqb_tells tag (row_at k).tag) [
          | inl same ↦
              let P : ℕ → Type 0 = λ t. position (λ r. r.tag == t) table ≡ None in
              absurd (no_place k (sym (subst P same.1 none) ∙ place_of_row k below))
          | inr other ↦ stays k below other.0
        ]

    pub one_added : (place : ℕ) (new : Slot) → length slots ≡ 16
        → position (λ r. r.tag == tag) table ≡ Some place
        → ((values : List (List ℕ)) → SlotHas (get_or slots place Absent) values
        → SlotHas new (values ++ text ∷ []))
        → (k : ℕ) → k < 16 → More k (get_or (set slots place new) k Absent)
    one_added place new size found added k below =
        elim (eqb_tells tag (row_at k).tag) [
          | inl same ↦
              let P : ℕ → Type 0 = λ t. position (λ r. r.tag == t) table ≡ Some place in
              let here : k ≡ place =
              one_place k place (sym (place_of_row k below) ∙ subst P same.1 found) in
              let Q : ℕ → Type 0 = λ n. More n (get_or (set slots place new) n Absent) in
              let at_place : tag ≡ (row_at place).tag = same.1 ∙ ap (λ n. (row_at n).tag) here in
              let inside : place < 16 = omega (arith, here, below) in
              let put : get_or (set slots place new) place Absent ≡ new =
              get_or-set_same slots place new Absent (omega (arith, inside, size)) in
              let grown = values_more (row_at place).tag listed (field tag text)
              (eq-eqb tag (row_at place).tag at_place) in
              let R : Slot → Type 0 = λ s. More place s in
              let S : List (List ℕ) → Type 0 = λ vs. SlotHas new vs in
              subst Q (sym here) (subst R (sym put)
              (subst S (sym grown) (added (values_of (row_at place).tag listed) (has place inside))))
          | inr other ↦
              let there = position-Some (λ r. r.tag == tag) table place (row_at 16) found in
              let apart : k ≢ place = λ here.
              other.1 (sym ((Decides-eqb (row_at place).tag tag).0 there.1)
              ∙ ap (λ n. (row_at n).tag) (sym here)) in
              let R : Slot → Type 0 = λ s. More k s in
              subst R (sym (get_or-set_other slots place k new Absent apart)) (stays k below other.0)
        ]
