-- Rows of one kind are sound after one another where they are few, in order and named apart.
use Rattle.std.proofs.Common.{◌≡◌, ℕ, ◌<◌, ◌≤◌, List, [], ◌∷◌, ◌++◌, length, map, refl, sym, ap}
use Rattle.std.proofs.Common.{◌∙◌}
use Rattle.std.proofs.Common.{subst, arith, true, false, None, append_assoc, length-append}
use Rattle.std.proofs.Common.{inl, inr}
use Rattle.std.specs.Prelude.{◌||◌, nat_le}
use Rattle.std.specs.List.{All, AllByRecursion, list_any, IsDistinct}
use Rattle.std.specs.Cmp.Lexicographic.{nat_list_eq_equiv, bytes_decides}
use Rattle.std.proofs.lemmas.Bool.{le-ltb, lt-leb, or_from, cases_Bool, false_from_ne_true}
use Rattle.std.proofs.lemmas.Bool.{true≢false}
use Rattle.std.proofs.lemmas.List.{append-nil, map-append, length-map}
use Rattle.std.proofs.lemmas.List.Elements.{All-head, All-tail}
use Rattle.std.proofs.lemmas.List.Sums.{count_by-le-length}
use Rattle.std.proofs.lemmas.Map.Keys.{IsDistinct-push, IsDistinct-head, IsDistinct-tail}
use Rattle.limit_table.specs.Kinds.{kind_of, same_text, is_crossed, rows_most}
use Rattle.limit_table.specs.Faults.{is_alike, same_key, count_alike, entry_fault}
use Rattle.limit_table.specs.Ranges.{IsInRange}
use Rattle.limit_table.specs.declared.kind.Entry.{Entry}
use Rattle.limit_table.specs.declared.kind.Entry.TheVariants as entry
use Rattle.limit_table.proofs.Sound.{no_fault}
use Rattle.limit_table.proofs.SoundAfter.{SoundAfter}

-- texts are the same in either order
same_text_flips : (a b : List ℕ) → same_text a b ≡ same_text b a
same_text_flips a b = elim (cases_Bool (same_text a b)) [
  | inl same ↦ same ∙ sym ((bytes_decides b a).1 (sym ((bytes_decides a b).0 same)))
  | inr other ↦
      let apart = false_from_ne_true (same_text b a) (λ (same : same_text b a ≡ true).
      let forth = (bytes_decides a b).1 (sym ((bytes_decides b a).0 same)) in
      true≢false (sym forth ∙ other)) in
      other ∙ sym apart
]

one_of_all : {A : Type 0} (P : A → Type 0) (xs : List A) (y : A) (rest : List A)
    → AllByRecursion P (xs ++ y ∷ rest) → P y
one_of_all P [] y rest h = h.0
one_of_all P (x ∷ xs) y rest h = one_of_all P xs y rest h.1

-- a name among distinct ones isn't among those before it
apart_from_front : (xs : List (List ℕ)) (y : List ℕ) (rest : List (List ℕ))
    → IsDistinct same_text (xs ++ y ∷ rest) → list_any (same_text y) xs ≡ false
apart_from_front [] y rest d = refl
apart_from_front (x ∷ xs) y rest d =
    let others = IsDistinct-head same_text x (xs ++ y ∷ rest) d in
    let here : same_text x y ≡ false = one_of_all (λ z. same_text x z ≡ false) xs y rest others in
    or_from (same_text y x) (list_any (same_text y) xs) (same_text_flips y x ∙ here)
    (apart_from_front xs y rest (IsDistinct-tail same_text x (xs ++ y ∷ rest) d))

-- what is in range has its prices in order
in_range_is_ordered : (e : Entry) → IsInRange e → is_crossed e ≡ false
in_range_is_ordered (entry.Firm x) r = refl
in_range_is_ordered (entry.Account x) r = refl
in_range_is_ordered (entry.Symbol x) r = le-ltb x.high x.low r.5
in_range_is_ordered (entry.Trip x) r = refl
in_range_is_ordered (entry.Quota x) r = refl
in_range_is_ordered (entry.Repeat x) r = refl
in_range_is_ordered (entry.Off x) r = refl

free_of_faults : (es : List Entry) (e : Entry) → list_any (same_key e) es ≡ false
    → nat_le (rows_most (kind_of e)) (count_alike e es) ≡ false → is_crossed e ≡ false
    → entry_fault es e ≡ None
free_of_faults es e new room ordered = rw (new, room, ordered) refl

module _ {X : Type 0} (make : X → Entry) (name : X → List ℕ)
    (key : (x y : X) → same_key (make x) (make y) ≡ same_text (name x) (name y)) where
  any_named : (x : X) (ys : List X)
      → list_any (same_key (make x)) (map make ys) ≡ list_any (same_text (name x)) (map name ys)
  any_named x [] = refl
  any_named x (y ∷ ys) =
      ap (λ b. b || list_any (same_key (make x)) (map make ys)) (key x y)
      ∙ ap (λ b. same_text (name x) (name y) || b) (any_named x ys)

  -- sound rows are named apart
  pub sound_is_distinct : (done rest : List X) → IsDistinct same_text (map name done)
      → SoundAfter (map make done) (map make rest) → IsDistinct same_text (map name (done ++ rest))
  sound_is_distinct done [] d s =
      subst (λ (xs : List X). IsDistinct same_text (map name xs)) (sym (append-nil done)) d
  sound_is_distinct done (x ∷ xs) d s =
      let fresh : list_any (same_text (name x)) (map name done) ≡ false =
      sym (any_named x done) ∙ (no_fault (map make done) (make x) s.0).new in
      let more : IsDistinct same_text (map name (done ++ x ∷ [])) =
      subst (λ (ns : List (List ℕ)). IsDistinct same_text ns) (sym (map-append name done (x ∷ [])))
      (IsDistinct-push nat_list_eq_equiv (map name done) (name x) d fresh) in
      subst (λ (ys : List X). IsDistinct same_text (map name ys)) (append_assoc done (x ∷ []) xs)
      (sound_is_distinct (done ++ x ∷ []) xs more
      (subst (λ (es : List Entry). SoundAfter es (map make xs))
      (sym (map-append make done (x ∷ []))) s.1))

  -- few rows in range that are named apart are sound
  pub distinct_is_sound : (most : ℕ) → ((x : X) → rows_most (kind_of (make x)) ≡ most)
      → (done rest : List X) → IsDistinct same_text (map name (done ++ rest))
      → length (done ++ rest) ≤ most → All IsInRange (map make rest)
      → SoundAfter (map make done) (map make rest)
  distinct_is_sound most kind_most done [] d few r = tt
  distinct_is_sound most kind_most done (x ∷ xs) d few r =
      let names = subst (λ (ns : List (List ℕ)). IsDistinct same_text ns)
      (map-append name done (x ∷ xs)) d in
      let new = any_named x done ∙ apart_from_front (map name done) (name x) (map name xs) names in
      let fewer : count_alike (make x) (map make done) < rows_most (kind_of (make x)) =
      omega (
        arith,
        kind_most x,
        few,
        count_by-le-length (is_alike (make x)) (map make done),
        length-map done make,
        length-append done (x ∷ xs),
      ) in
      let ordered = in_range_is_ordered (make x) (All-head IsInRange (make x) (map make xs) r) in
      let room = lt-leb (rows_most (kind_of (make x))) (count_alike (make x) (map make done))
      fewer in
      let here = free_of_faults (map make done) (make x) new room ordered in
      let whole = sym (append_assoc done (x ∷ []) xs) in
      let rest = distinct_is_sound most kind_most (done ++ x ∷ []) xs
      (subst (λ (ys : List X). IsDistinct same_text (map name ys)) whole d)
      (subst (λ (ys : List X). length ys ≤ most) whole few)
      (All-tail IsInRange (make x) (map make xs) r) in (
        here,
        subst (λ (es : List Entry). SoundAfter es (map make xs)) (map-append make done (x ∷ []))
            rest,
      )
