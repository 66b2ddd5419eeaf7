-- How many items the first lists have together.
use Rattle.std.proofs.Common.{◌≡◌, ℕ, zero, suc, ◌+◌, ◌<◌, ◌≤◌, List, [], ◌∷◌, length, take}
use Rattle.std.proofs.Common.{ap, sym, ◌∙◌, arith, get_or, ⊎_elim}
use Rattle.std.specs.Prelude.{slice_get, Some}
use Rattle.std.proofs.lemmas.List.{take_more, take_all, get_or_past}
use Rattle.std.proofs.lemmas.List.Sums.{sum_by-cons, sum_by_push}
use Rattle.std.proofs.lemmas.Option.{slice_get_within, slice_get-get_or}
use Rattle.journal_check.specs.RowNumbers.{count_all}
use Rattle.journal_check.proofs.Cases.{le_or_lt}

module _ {X : Type 0} where
  pub count-cons : (own : List X) (lists : List (List X))
      → count_all (own ∷ lists) ≡ length own + count_all lists
  count-cons own lists = sum_by-cons (λ (l : List X). length l) own lists

  -- with one list more, which has nothing past the last
  pub count_next : (lists : List (List X)) (index : ℕ)
      → count_all (take (index + 1) lists)
      ≡ count_all (take index lists) + length (get_or lists index [])
  count_next lists index = ⊎_elim
      (λ (past : length lists ≤ index).
      ap count_all (take_all (index + 1) lists (omega (arith, past))
      ∙ sym (take_all index lists past))
      ∙ (let none = ap length (get_or_past lists index [] past) in omega (arith, none)))
      (λ (less : index < length lists).
      ap count_all (take_more lists index [] less)
      ∙ sum_by_push (λ (l : List X). length l) (take index lists) (get_or lists index []))
      (le_or_lt (length lists) index)

  pub count_grows : (lists : List (List X)) (few many : ℕ) → few ≤ many
      → count_all (take few lists) ≤ count_all (take many lists)
  count_grows [] zero many le = omega arith
  count_grows [] (suc few) zero le = absurd (omega (arith, le))
  count_grows [] (suc few) (suc many) le = omega arith
  count_grows (own ∷ lists) zero many le = omega arith
  count_grows (own ∷ lists) (suc few) zero le = absurd (omega (arith, le))
  count_grows (own ∷ lists) (suc few) (suc many) le =
      omega (
        arith,
        count-cons own (take few lists),
        count-cons own (take many lists),
        count_grows lists few many (omega (arith, le)),
      )

  pub count_whole : (lists : List (List X)) (many : ℕ)
      → count_all (take many lists) ≤ count_all lists
  count_whole [] zero = omega arith
  count_whole [] (suc many) = omega arith
  count_whole (own ∷ lists) zero = omega arith
  count_whole (own ∷ lists) (suc many) =
      omega (arith, count-cons own (take many lists), count-cons own lists, count_whole lists many)

  -- the items of a list are counted before those of a later one
  pub count_later : (lists : List (List X)) (index later : ℕ) → index < later
      → count_all (take index lists) + length (get_or lists index []) ≤ count_all (take later lists)
  count_later lists index later less =
      omega (arith, count_next lists index, count_grows lists (index + 1) later (omega (arith, less)))

  pub count_own : (lists : List (List X)) (index : ℕ)
      → count_all (take index lists) + length (get_or lists index []) ≤ count_all lists
  count_own lists index =
      omega (arith, count_next lists index, count_whole lists (index + 1))

  pub count_end : (lists : List (List X)) (index : ℕ) → length lists ≤ index
      → count_all (take index lists) ≡ count_all lists
  count_end lists index past = ap count_all (take_all index lists past)

  -- what stands in a list of lists has one
  pub stands_in : (lists : List (List X)) (index place : ℕ) (item : X)
      → slice_get (get_or lists index []) place ≡ Some item
      → slice_get lists index ≡ Some (get_or lists index [])
  stands_in lists index place item at = ⊎_elim
      (λ (past : length lists ≤ index).
      let none = ap length (get_or_past lists index [] past) in
      absurd (omega (arith, none, slice_get_within (get_or lists index []) place item at)))
      (λ (less : index < length lists). slice_get-get_or lists index [] less)
      (le_or_lt (length lists) index)
