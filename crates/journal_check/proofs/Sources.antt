-- Sources that were taken from the front of a list, and come back one after another.
use Rattle.std.proofs.Common.{◌≡◌, ℕ, ◌+◌, ◌-◌, ◌<◌, ◌≤◌, List, [], ◌∷◌, ◌++◌, length, drop}
use Rattle.std.proofs.Common.{refl, ap, sym, subst, ◌∙◌, arith, ⊎_elim, get_or, length-append, length-drop}
use Rattle.std.proofs.Math.Seq.{get_or-append_seam}
use Rattle.std.specs.Prelude.{slice_get, Option, Some}
use Rattle.std.proofs.lemmas.List.{drop_more, get_or_append_left, get_or-append-add, get_or-drop}
use Rattle.std.proofs.lemmas.Option.{slice_get_within, get_or_from_slice_get, slice_get-get_or}
use Rattle.gate_ports.specs.Faults.{Rose}
use Rattle.journal_check.specs.Answers.{IsSourceBack, AreBack, RoseAt}
use Rattle.journal_check.proofs.Cases.{le_or_lt}

-- the first of those that are left stands at the place of a session, and the others are left
pub first_left : {X : Type 0} (xs rest : List X) (session : ℕ) (x : X)
    → drop session xs ≡ x ∷ rest
    → (slice_get xs session ≡ Some x) × (rest ≡ drop (session + 1) xs)
first_left {X} xs rest session x is =
    let below : session < length xs =
    omega (arith, ap length is, length-drop session xs) in
    let parts : get_or xs session x ∷ drop (session + 1) xs ≡ x ∷ rest =
    sym (drop_more xs session x below) ∙ is in (
      slice_get-get_or xs session x below
          ∙ ap (λ (y : X). Some y) (ap (λ (l : List X). get_or l 0 x) parts),
      sym (ap (drop 1) parts),
    )

-- what is taken from the front
pub taken_first : {X : Type 0} (xs rest : List X) (x : X) → 1 ≤ length xs → x ≡ get_or xs 0 x
    → rest ≡ drop 1 xs → xs ≡ x ∷ rest
taken_first [] rest x some is left = absurd (omega (arith, some))
taken_first (y ∷ xs) rest x some is left = ap (λ z. z ∷ xs) (sym is) ∙ ap (λ l. x ∷ l) (sym left)

-- what stands at a place in two lists one after the other
pub at_place : {X : Type 0} (front back : List X) (index : ℕ) (x : X)
    → slice_get (front ++ back) index ≡ Some x
    → (index < length front → slice_get front index ≡ Some x)
    × (length front ≤ index → slice_get back (index - length front) ≡ Some x)
at_place {X} front back index x at =
    let inside : index < length (front ++ back) = slice_get_within (front ++ back) index x at in
    let is : get_or (front ++ back) index x ≡ x = get_or_from_slice_get (front ++ back) index x x at in (
      (λ less. slice_get-get_or front index x less
          ∙ ap (λ (y : X). Some y) (sym (get_or_append_left front back x index less) ∙ is)),
      (λ past.
          let more : ℕ = index - length front in
          let sum : index ≡ length front + more = omega (arith, past) in
          let less : more < length back = omega (arith, inside, sum, length-append front back) in
          slice_get-get_or back more x less
          ∙ ap (λ (y : X). Some y) (sym (get_or-append-add front back more x)
          ∙ ap (λ i. get_or (front ++ back) i x) (sym sum) ∙ is)),
    )

module _ {S : Type 0} (faults : S → ℕ) (name : S → Option (List ℕ)) (before : List S) where
  -- the first of them came back
  abbrev pub AreBackSoFar : List S → Type 0
  AreBackSoFar now = (index : ℕ) (one other : S) → slice_get before index ≡ Some one
      → slice_get now index ≡ Some other → IsSourceBack faults name one other

  same_back : (one : S) → IsSourceBack faults name one one
  same_back one = record { later = omega arith; name_is = refl }

  pub back_more : (now : List S) (one other : S) → slice_get before (length now) ≡ Some one
      → AreBackSoFar now → IsSourceBack faults name one other → AreBackSoFar (now ++ other ∷ [])
  back_more now one other at so_far back index first then has also =
      let parts = at_place now (other ∷ []) index then also in
      ⊎_elim
      (λ (past : length now ≤ index).
      let inside = slice_get_within (now ++ other ∷ []) index then also in
      let last : index ≡ length now = omega (arith, past, inside, length-append now (other ∷ [])) in
      let is : first ≡ one = sym (get_or_from_slice_get before index first first has)
      ∙ ap (λ i. get_or before i first) last
      ∙ get_or_from_slice_get before (length now) one first at in
      let zero_is : index - length now ≡ 0 = omega (arith, last) in
      let same : other ≡ then = get_or_from_slice_get (other ∷ []) 0 then other
      (subst (λ (i : ℕ). slice_get (other ∷ []) i ≡ Some then) zero_is (parts.1 past)) in
      subst (λ (s : S). IsSourceBack faults name s then) (sym is)
      (subst (IsSourceBack faults name one) same back))
      (λ (less : index < length now). so_far index first then has (parts.0 less))
      (le_or_lt (length now) index)

  -- all of them, none of which was called
  pub itself_back : AreBack faults name before before
  itself_back = record {
    count = refl;
    each = λ index one other at also.
        let is : one ≡ other = sym (get_or_from_slice_get before index one one at)
        ∙ get_or_from_slice_get before index other one also in
        subst (IsSourceBack faults name one) is (same_back one);
  }

  -- with those that weren't called all are back
  pub all_back : (now : List S) (session : ℕ) → length now ≡ session → session ≤ length before
      → AreBackSoFar now → AreBack faults name before (now ++ drop session before)
  all_back now session count few so_far = record {
    count = omega (arith, length-append now (drop session before), length-drop session before, count, few);
    each = λ index one other at also.
        let parts = at_place now (drop session before) index other also in
        ⊎_elim
        (λ (past : length now ≤ index).
        let more : ℕ = index - length now in
        let sum : session + more ≡ index = omega (arith, past, count) in
        let less = slice_get_within (drop session before) more other (parts.1 past) in
        let is : one ≡ other = sym (get_or_from_slice_get before index one other at)
        ∙ ap (λ i. get_or before i other) (sym sum) ∙ sym (get_or-drop session before more other)
        ∙ get_or_from_slice_get (drop session before) more other other (parts.1 past) in
        subst (IsSourceBack faults name one) is (same_back one))
        (λ (less : index < length now). so_far index one other at (parts.0 less))
        (le_or_lt (length now) index);
  }

  -- the last that came back stands in its place among all
  pub last_back : (now rest : List S) (one other : S) → slice_get before (length now) ≡ Some one
      → Rose (faults one) (faults other)
      → RoseAt faults before ((now ++ other ∷ []) ++ rest) (length now)
  last_back now rest one other at rose =
      let less : length now < length (now ++ other ∷ []) = omega (arith, length-append now (other ∷ [])) in
      let inside : length now < length ((now ++ other ∷ []) ++ rest) =
      omega (arith, less, length-append (now ++ other ∷ []) rest) in
      record {
        one = one;
        other = other;
        at = at;
        also = slice_get-get_or ((now ++ other ∷ []) ++ rest) (length now) other inside
            ∙ ap (λ (s : S). Some s)
            (get_or_append_left (now ++ other ∷ []) rest other (length now) less
            ∙ get_or-append_seam now other [] other);
        rose = rose;
      }
