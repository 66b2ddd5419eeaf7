-- Pieces of a journal that tasks wrote, and totals that tasks made, in the order of their numbers.
use Rattle.std.proofs.Common.{◌≡◌, ℕ, zero, suc, ◌+◌, ◌^◌, ◌<◌, ◌≤◌, List, [], ◌∷◌, ◌++◌, length, map}
use Rattle.std.proofs.Common.{take, get_or, refl, sym, ap, ◌∙◌, subst, arith, Vec, Global}
use Rattle.std.proofs.Common.{append_assoc, length-take}
use Rattle.std.specs.Prelude.{Result, Ok, Err, All}
use Rattle.std.specs.List.{AllZip, AllByRecursion, flat_map, enumerate_from}
use Rattle.std.proofs.lemmas.List.{append-nil, map-append, length-map, take_more, take_all}
use Rattle.std.proofs.lemmas.List.Concat.{flat_map-append}
use Rattle.std.proofs.lemmas.List.Elements.{recursion_from_All}
use Rattle.risk_board.specs.declared.hand.Line.{Line}
use Rattle.risk_journal.specs.JournalText.{header_text, journal_text, session_text, tree_text}
use Rattle.risk_journal.specs.declared.acts.Act.{Act}
use Rattle.risk_journal.specs.declared.acts.End.{End}
use Rattle.risk_journal.specs.declared.acts.End.TheVariants as ending
use Rattle.risk_journal.specs.declared.totals.SessionTotal.{SessionTotal}
use Rattle.risk_journal.proofs.RowLists.{numbered_push}
use Rattle.trail_replay.specs.Reads.{list_below}
use Rattle.trail_replay.proofs.ReplayedTrees.{all_below}
use Rattle.gate_program.specs.Pieces.{bytes_in, HasRows, IsWritten}
use Rattle.gate_files.specs.Joined.{joined}
use Rattle.gate_program.specs.Totals.{session_totals, total_at, IsCountable}
use Rattle.gate_program.proofs.TotalLists.{session_pushed}

-- what the results of tasks are, by what their items are
pub zipped_map : {A B C D : Type 0} (R : A → B → Type 0) (before : A → C) (after : B → D) (f : C → D)
    → ((x : A) (y : B) → R x y → after y ≡ f (before x))
    → (xs : List A) (ys : List B) → AllZip R xs ys → map after ys ≡ map f (map before xs)
zipped_map R before after f each [] [] all = refl
zipped_map R before after f each [] (y ∷ ys) all = absurd all
zipped_map R before after f each (x ∷ xs) [] all = absurd all
zipped_map R before after f each (x ∷ xs) (y ∷ ys) all =
    let rest = zipped_map R before after f each xs ys all.1 in
    λ k. each x y all.0 k ∷ rest k

module _ {Y : Type 0} (rows : ℕ × List Y → List ℕ) (lists : List (List Y)) where
  -- the rows of the list with this number
  abbrev rows_at : ℕ → List ℕ
  rows_at number = rows (number, get_or lists number [])

  rows_by : {E : Type 0} (numbers : List ℕ) (written : List (Result (Vec ℕ Global) E))
      → AllZip (HasRows rows lists) numbers written → AllByRecursion IsWritten written
      → flat_map bytes_in written ≡ flat_map rows_at numbers
  rows_by [] [] zipped whole = refl
  rows_by [] (one ∷ written) zipped whole = absurd zipped
  rows_by (number ∷ numbers) [] zipped whole = absurd zipped
  rows_by (number ∷ numbers) (Err why ∷ written) zipped whole = absurd whole.0
  rows_by (number ∷ numbers) (Ok piece ∷ written) zipped whole =
      let rest = rows_by numbers written zipped.1 whole.1 in
      let first = zipped.0 in
      λ k. first k ++ rest k

  rows_below : (n : ℕ) → n ≤ length lists
      → flat_map rows_at (list_below (λ number. number) n)
      ≡ flat_map rows (enumerate_from 0 (take n lists))
  rows_below zero le = refl
  rows_below (suc n) le =
      let own = get_or lists n [] in
      let next : n + 1 ≡ suc n = omega arith in
      let front : take (suc n) lists ≡ take n lists ++ own ∷ [] =
      ap (λ m. take m lists) (sym next) ∙ take_more lists n [] (omega arith) in
      let count : 0 + length (take n lists) ≡ n = omega (arith, length-take n lists, le) in
      flat_map-append rows_at (list_below (λ number. number) n) (n ∷ [])
      ∙ ((λ k. rows_below n (omega arith) k ++ append-nil (rows_at n) k)
      ∙ (ap (λ m. flat_map rows (enumerate_from 0 (take n lists)) ++ rows (m, own)) (sym count)
      ∙ (sym (numbered_push rows 0 (take n lists) own)
      ∙ ap (λ all. flat_map rows (enumerate_from 0 all)) (sym front))))

  -- pieces that were written of all numbers are the rows of all lists
  pub rows_of_all : {E : Type 0} (n : ℕ) (written : List (Result (Vec ℕ Global) E)) → length lists ≡ n
      → AllZip (HasRows rows lists) (list_below (λ number. number) n) written
      → AllByRecursion IsWritten written
      → flat_map bytes_in written ≡ flat_map rows (enumerate_from 0 lists)
  rows_of_all n written count zipped whole =
      rows_by (list_below (λ number. number) n) written zipped whole
      ∙ (rows_below n (omega (arith, count))
      ∙ ap (λ all. flat_map rows (enumerate_from 0 all)) (take_all n lists (omega (arith, count))))

totals_below : (ends : List End) (acts : List (List Act)) (n : ℕ) → n ≤ length ends
    → n ≤ length acts
    → map (total_at ends acts) (list_below (λ number. number) n)
    ≡ session_totals (take n ends) (take n acts)
totals_below ends acts zero few_ends few = refl
totals_below ends acts (suc n) few_ends few =
    let end = get_or ends n ending.Whole in
    let own = get_or acts n [] in
    let next : n + 1 ≡ suc n = omega arith in
    let ends_front : take (suc n) ends ≡ take n ends ++ end ∷ [] =
    ap (λ m. take m ends) (sym next) ∙ take_more ends n ending.Whole (omega arith) in
    let acts_front : take (suc n) acts ≡ take n acts ++ own ∷ [] =
    ap (λ m. take m acts) (sym next) ∙ take_more acts n [] (omega arith) in
    let earlier = totals_below ends acts n (omega arith) (omega arith) in
    map-append (total_at ends acts) (list_below (λ number. number) n) (n ∷ [])
    ∙ (ap (λ (l : List SessionTotal). l ++ total_at ends acts n ∷ []) earlier
    ∙ (sym (session_pushed (take n ends) (take n acts) end own
    (omega (arith, length-take n ends, length-take n acts, few_ends, few)))
    ∙ (λ k. session_totals (sym ends_front k) (sym acts_front k))))

totals_by : (ends : List End) (acts : List (List Act)) (numbers : List ℕ)
    (totals : List SessionTotal)
    → AllZip (λ number total. total ≡ total_at ends acts number) numbers totals
    → totals ≡ map (total_at ends acts) numbers
totals_by ends acts [] [] zipped = refl
totals_by ends acts [] (total ∷ totals) zipped = absurd zipped
totals_by ends acts (number ∷ numbers) [] zipped = absurd zipped
totals_by ends acts (number ∷ numbers) (total ∷ totals) zipped =
    let rest = totals_by ends acts numbers totals zipped.1 in
    let first = zipped.0 in
    λ k. first k ∷ rest k

-- the totals of all numbers are those of all sessions
pub totals_of_all : (ends : List End) (acts : List (List Act)) (n : ℕ) (totals : List SessionTotal)
    → length ends ≡ n → length acts ≡ n
    → AllZip (λ number total. total ≡ total_at ends acts number)
    (list_below (λ number. number) n) totals
    → totals ≡ session_totals ends acts
totals_of_all ends acts n totals ended acted zipped =
    totals_by ends acts (list_below (λ number. number) n) totals zipped
    ∙ (totals_below ends acts n (omega (arith, ended)) (omega (arith, acted))
    ∙ (λ k. session_totals (take_all n ends (omega (arith, ended)) k)
    (take_all n acts (omega (arith, acted)) k)))

few_at : (acts : List (Vec Act Global)) (n : ℕ) → n < length acts
    → AllByRecursion (λ own. length own.items < 2 ^ 32) acts
    → length (get_or (map (λ own. own.items) acts) n []) < 2 ^ 32
few_at [] n less few = absurd (omega (arith, less))
few_at (own ∷ acts) zero less few = few.0
few_at (own ∷ acts) (suc n) less few = few_at acts n (omega (arith, less)) few.1

-- each session can be counted
pub all_countable : (ends : List End) (acts : List (Vec Act Global)) (numbers : List ℕ)
    → length ends ≡ length acts → All (λ own. length own.items < 2 ^ 32) acts
    → numbers ≡ list_below (λ number. number) (length acts)
    → AllByRecursion (IsCountable ends (map (λ own. own.items) acts)) numbers
all_countable ends acts numbers same few are =
    let all = recursion_from_All (λ (own : Vec Act Global). length own.items < 2 ^ 32) acts few in
    subst (AllByRecursion (IsCountable ends (map (λ own. own.items) acts))) (sym are)
    (all_below (IsCountable ends (map (λ own. own.items) acts)) (length acts) (λ n below. record {
      ended = omega (arith, below, same);
      acted = omega (arith, below, length-map acts (λ (own : Vec Act Global). own.items));
      few = few_at acts n below all;
    }))

-- what holds of each number below one holds of all numbers
pub all_numbers : (P : ℕ → Type 0) (n : ℕ) (numbers : List ℕ)
    → numbers ≡ list_below (λ number. number) n → ((k : ℕ) → k < n → P k) → AllByRecursion P numbers
all_numbers P n numbers are each = subst (AllByRecursion P) (sym are) (all_below P n each)

-- the first row alone
pub first_joined : (before pushed : List (Vec ℕ Global)) (piece : Vec ℕ Global) → before ≡ []
    → pushed ≡ before ++ piece ∷ [] → piece.items ≡ header_text → joined pushed ≡ header_text
first_joined before pushed piece none is header =
    ap joined (is ∙ ap (λ (all : List (Vec ℕ Global)). all ++ piece ∷ []) none)
    ∙ (append-nil piece.items ∙ header)

-- the first row, the rows of all sessions and those of all trees are the journal
pub all_joined : {E : Type 0} (first middle last : List (Vec ℕ Global))
    (acts shown_acts : List (Vec Act Global)) (lines shown_lines : List (Vec Line Global))
    (sessions trees : List (Result (Vec ℕ Global) E)) → joined first ≡ header_text
    → shown_acts ≡ acts → shown_lines ≡ lines
    → AllZip (HasRows session_text (map (λ own. own.items) shown_acts))
    (list_below (λ number. number) (length shown_acts)) sessions
    → AllByRecursion IsWritten sessions
    → joined middle ≡ joined first ++ flat_map bytes_in sessions
    → AllZip (HasRows tree_text (map (λ own. own.items) shown_lines))
    (list_below (λ number. number) (length shown_lines)) trees
    → AllByRecursion IsWritten trees
    → joined last ≡ joined middle ++ flat_map bytes_in trees
    → joined last
    ≡ journal_text (map (λ own. own.items) acts) (map (λ own. own.items) lines)
all_joined first middle last acts shown_acts lines shown_lines sessions trees header same_acts
    same_lines by_session all_sessions added by_tree all_trees added_trees =
    let own_acts = map (λ (own : Vec Act Global). own.items) shown_acts in
    let own_lines = map (λ (own : Vec Line Global). own.items) shown_lines in
    let s = flat_map session_text (enumerate_from 0 own_acts) in
    let t = flat_map tree_text (enumerate_from 0 own_lines) in
    let of_sessions = rows_of_all session_text own_acts (length shown_acts) sessions
    (length-map shown_acts (λ (own : Vec Act Global). own.items)) by_session all_sessions in
    let of_trees = rows_of_all tree_text own_lines (length shown_lines) trees
    (length-map shown_lines (λ (own : Vec Line Global). own.items)) by_tree all_trees in
    let front : joined middle ≡ header_text ++ s =
    added ∙ (λ k. header k ++ of_sessions k) in
    added_trees
    ∙ ((λ k. front k ++ of_trees k)
    ∙ (append_assoc header_text s t
    ∙ (λ k. journal_text (map (λ own. own.items) (same_acts k))
    (map (λ own. own.items) (same_lines k)))))
