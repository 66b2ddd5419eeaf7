-- Pieces of a journal that tasks wrote, in the order of their numbers.
use Rattle.std.proofs.Common.{◌≡◌, ℕ, suc, ◌+◌, List, [], ◌∷◌, ◌++◌, length, map}
use Rattle.std.proofs.Common.{get_or, refl, sym, ap, ◌∙◌, arith, Vec, Global}
use Rattle.std.proofs.Common.{append_assoc}
use Rattle.std.specs.Prelude.{Result, Ok, Err}
use Rattle.std.specs.List.{AllZip, AllByRecursion, flat_map, enumerate_from, range_with_len}
use Rattle.std.proofs.lemmas.List.{append-nil, length-map}
use Rattle.risk_board.specs.declared.hand.Line.{Line}
use Rattle.risk_journal.specs.JournalText.{header_text, journal_text, session_text, tree_text}
use Rattle.risk_journal.specs.declared.acts.Act.{Act}
use Rattle.gate_files.specs.Joined.{joined}
use Rattle.session_tasks.specs.Pieces.{bytes_in, HasRows, IsWritten}

-- what the results of tasks are, by what their items are
pub zipped_map : {A B C D : Type 0} (R : A → B → Type 0) (before : A → C) (after : B → D)
    (f : C → D)
    → ((x : A) (y : B) → R x y → after y ≡ f (before x))
    → (xs : List A) (ys : List B) → AllZip R xs ys → map after ys ≡ map f (map before xs)
zipped_map R before after f each [] [] all = refl
zipped_map R before after f each [] (y ∷ ys) all = absurd all
zipped_map R before after f each (x ∷ xs) [] all = absurd all
zipped_map R before after f each (x ∷ xs) (y ∷ ys) all =
    let rest = zipped_map R before after f each xs ys all.1 in
    λ k. each x y all.0 k ∷ rest k

module _ {Y : Type 0} (rows : ℕ × List Y → List ℕ) (lists : List (List Y)) where
  -- the rows of the list with this number
  abbrev rows_at : ℕ → List ℕ
  rows_at number = rows (number, get_or lists number [])

  rows_by : {E : Type 0} (numbers : List ℕ) (written : List (Result (Vec ℕ Global) E))
      → AllZip (HasRows rows lists) numbers written → AllByRecursion IsWritten written
      → flat_map bytes_in written ≡ flat_map rows_at numbers
  rows_by [] [] zipped whole = refl
  rows_by [] (one ∷ written) zipped whole = absurd zipped
  rows_by (number ∷ numbers) [] zipped whole = absurd zipped
  rows_by (number ∷ numbers) (Err why ∷ written) zipped whole = absurd whole.0
  rows_by (number ∷ numbers) (Ok piece ∷ written) zipped whole =
      let rest = rows_by numbers written zipped.1 whole.1 in
      let first = zipped.0 in
      λ k. first k ++ rest k

  -- the rows from a number on are those of the lists that stand there
  rows_from : (a : ℕ) (xs : List (List Y))
      → ((i : ℕ) → get_or lists (a + i) [] ≡ get_or xs i [])
      → flat_map rows_at (range_with_len a (length xs)) ≡ flat_map rows (enumerate_from a xs)
  rows_from a [] stands = refl
  rows_from a (x ∷ xs) stands =
      let here : a ≡ a + 0 = omega arith in
      let first : get_or lists a [] ≡ x = ap (λ (n : ℕ). get_or lists n []) here ∙ stands 0 in
      let rest = rows_from (a + 1) xs (λ i.
      let next : a + 1 + i ≡ a + suc i = omega arith in
      ap (λ (n : ℕ). get_or lists n []) next ∙ stands (suc i)) in
      λ k. rows (a, first k) ++ rest k

  -- pieces that were written of all numbers are the rows of all lists
  pub rows_of_all : {E : Type 0} (n : ℕ) (written : List (Result (Vec ℕ Global) E))
      → length lists ≡ n
      → AllZip (HasRows rows lists) (range_with_len 0 n) written
      → AllByRecursion IsWritten written
      → flat_map bytes_in written ≡ flat_map rows (enumerate_from 0 lists)
  rows_of_all n written count zipped whole =
      rows_by (range_with_len 0 n) written zipped whole
      ∙ ap (λ (m : ℕ). flat_map rows_at (range_with_len 0 m)) (sym count)
      ∙ rows_from 0 lists (λ i. ap (λ (n : ℕ). get_or lists n []) (omega arith))

-- the first row alone
pub first_joined : (before pushed : List (Vec ℕ Global)) (piece : Vec ℕ Global) → before ≡ []
    → pushed ≡ before ++ piece ∷ [] → piece.items ≡ header_text → joined pushed ≡ header_text
first_joined before pushed piece none is header =
    ap joined (is ∙ ap (λ (all : List (Vec ℕ Global)). all ++ piece ∷ []) none)
    ∙ (append-nil piece.items ∙ header)

-- the first row, the rows of all sessions and those of all trees are the journal
pub all_joined : {E : Type 0} (first middle last : List (Vec ℕ Global))
    (acts shown_acts : List (Vec Act Global)) (lines shown_lines : List (Vec Line Global))
    (sessions trees : List (Result (Vec ℕ Global) E)) → joined first ≡ header_text
    → shown_acts ≡ acts → shown_lines ≡ lines
    → AllZip (HasRows session_text (map (λ own. own.items) shown_acts))
    (range_with_len 0 (length shown_acts)) sessions
    → AllByRecursion IsWritten sessions
    → joined middle ≡ joined first ++ flat_map bytes_in sessions
    → AllZip (HasRows tree_text (map (λ own. own.items) shown_lines))
    (range_with_len 0 (length shown_lines)) trees
    → AllByRecursion IsWritten trees
    → joined last ≡ joined middle ++ flat_map bytes_in trees
    → joined last
    ≡ journal_text (map (λ own. own.items) acts) (map (λ own. own.items) lines)
all_joined first middle last acts shown_acts lines shown_lines sessions trees header same_acts
    same_lines by_session all_sessions added by_tree all_trees added_trees =
    let own_acts = map (λ (own : Vec Act Global). own.items) shown_acts in
    let own_lines = map (λ (own : Vec Line Global). own.items) shown_lines in
    let s = flat_map session_text (enumerate_from 0 own_acts) in
    let t = flat_map tree_text (enumerate_from 0 own_lines) in
    let of_sessions = rows_of_all session_text own_acts (length shown_acts) sessions
    (length-map shown_acts (λ (own : Vec Act Global). own.items)) by_session all_sessions in
    let of_trees = rows_of_all tree_text own_lines (length shown_lines) trees
    (length-map shown_lines (λ (own : Vec Line Global). own.items)) by_tree all_trees in
    let front : joined middle ≡ header_text ++ s =
    added ∙ (λ k. header k ++ of_sessions k) in
    added_trees
    ∙ ((λ k. front k ++ of_trees k)
    ∙ (append_assoc header_text s t
    ∙ (λ k. journal_text (map (λ own. own.items) (same_acts k))
    (map (λ own. own.items) (same_lines k)))))
