-- Right reads in order of row are legal.
use Rattle.std.proofs.Common.{◌≡◌, ◌≢◌, ℕ, zero, suc, ◌+◌, ◌<◌, ◌≤◌, List, [], ◌∷◌, ◌++◌, length, map, take}
use Rattle.std.proofs.Common.{refl, ap, sym, subst, ◌∙◌, arith, ⊎_elim, get_or}
use Rattle.std.specs.Prelude.{slice_get, Some, Bool, true, false, ◌==◌, cond}
use Rattle.std.proofs.lemmas.List.Sums.{sum_by-cons}
use Rattle.std.proofs.lemmas.Option.{slice_get_within, get_or_from_slice_get, none-some}
use Rattle.risk_board.specs.declared.hand.Line.{Line}
use Rattle.risk_board.specs.History.{Event, ReadsFit, StampsRise, PlaceFollows, PlacesFollow}
use Rattle.risk_board.specs.History.Event.{Posted, Saw}
use Rattle.risk_journal.specs.ActLists.{events_of}
use Rattle.risk_journal.specs.declared.acts.Act.{Act}
use Rattle.risk_journal.specs.declared.acts.Act.TheVariants.{Post, Read, Sent, Refused, Noted, Ended}
use Rattle.journal_check.specs.RowNumbers.{count_all}
use Rattle.journal_check.specs.ReadRows.{ReadRow, told_events, session_reads, reads_from, FitsLines, Agree}
use Rattle.journal_check.specs.ReadRows.{AreRightRows}
use Rattle.journal_check.proofs.Cases.{same_or, le_or_lt}

-- a read stands somewhere among these
pub record IsIn (reads : List ReadRow) (read : ReadRow) : Type 0 where
  pub index : ℕ
  pub at : slice_get reads index ≡ Some read

first_in : (reads : List ReadRow) (read : ReadRow) → IsIn (read ∷ reads) read
first_in reads read = record { index = zero; at = refl }

later_in : (x : ReadRow) (reads : List ReadRow) (read : ReadRow) → IsIn reads read
    → IsIn (x ∷ reads) read
later_in x reads read is = record { index = suc is.index; at = is.at }

left_in : (xs ys : List ReadRow) (read : ReadRow) → IsIn xs read → IsIn (xs ++ ys) read
left_in [] ys read is = absurd (none-some read is.at)
left_in (x ∷ xs) ys read is = elim (is.index) as (λ i. slice_get (x ∷ xs) i ≡ Some read → IsIn (x ∷ xs ++ ys) read) [
  | zero ↦ λ at. record { index = zero; at = at }
  | suc i ↦ λ at. later_in x (xs ++ ys) read (left_in xs ys read (record { index = i; at = at }))
] is.at

right_in : (xs ys : List ReadRow) (read : ReadRow) → IsIn ys read → IsIn (xs ++ ys) read
right_in [] ys read is = is
right_in (x ∷ xs) ys read is = later_in x (xs ++ ys) read (right_in xs ys read is)

-- the events without their rows
abbrev pub untold : List (ℕ × Event) → List Event
untold own = map (λ (told : ℕ × Event). told.1) own

told_one : (row : ℕ) (event : Event) (b : Bool) (own : List (ℕ × Event)) (events : List Event)
    → untold own ≡ events
    → untold (cond b ((row, event) ∷ own) own) ≡ cond b (event ∷ events) events
told_one row event true own events same = ap (λ e. event ∷ e) same
told_one row event false own events same = same

-- they are the session's events in the tree
pub untold_events : (tree row : ℕ) (acts : List Act)
    → untold (told_events tree row acts) ≡ events_of tree acts
untold_events tree row [] = refl
untold_events tree row (Post in_tree index value ∷ acts) =
    told_one row (Posted value) (in_tree == tree) (told_events tree (row + 1) acts)
    (events_of tree acts) (untold_events tree (row + 1) acts)
untold_events tree row (Read in_tree stamp place value ∷ acts) =
    told_one row (Saw stamp place value) (in_tree == tree) (told_events tree (row + 1) acts)
    (events_of tree acts) (untold_events tree (row + 1) acts)
untold_events tree row (Sent frame ∷ acts) = untold_events tree (row + 1) acts
untold_events tree row (Refused frame code first second ∷ acts) = untold_events tree (row + 1) acts
untold_events tree row (Noted frame code first second ∷ acts) = untold_events tree (row + 1) acts
untold_events tree row (Ended end ∷ acts) = untold_events tree (row + 1) acts

-- the reads of a session are among those of all
pub session_in : (tree : ℕ) (acts : List (List Act)) (first row session number at_row : ℕ)
    (own : List Act) (read : ReadRow) → slice_get acts session ≡ Some own
    → number ≡ first + session → at_row ≡ row + count_all (take session acts)
    → IsIn (session_reads number 0 0 (told_events tree at_row own)) read
    → IsIn (reads_from tree first row acts) read
session_in tree [] first row session number at_row own read at n r is = absurd (none-some own at)
session_in tree (x ∷ acts) first row zero number at_row own read at n r is =
    let same : own ≡ x = sym (get_or_from_slice_get (x ∷ acts) 0 own [] at) in
    let one : number ≡ first = omega (arith, n) in
    let two : at_row ≡ row = omega (arith, r) in
    left_in (session_reads first 0 0 (told_events tree row x))
    (reads_from tree (first + 1) (row + length x) acts) read
    (subst (λ (m : ℕ). IsIn (session_reads m 0 0 (told_events tree row x)) read) one
    (subst (λ (m : ℕ). IsIn (session_reads number 0 0 (told_events tree m x)) read) two
    (subst (λ (o : List Act). IsIn (session_reads number 0 0 (told_events tree at_row o)) read) same
    is)))
session_in tree (x ∷ acts) first row (suc session) number at_row own read at n r is =
    let more : count_all (x ∷ take session acts) ≡ length x + count_all (take session acts) =
    sum_by-cons (λ (l : List Act). length l) x (take session acts) in
    right_in (session_reads first 0 0 (told_events tree row x))
    (reads_from tree (first + 1) (row + length x) acts) read
    (session_in tree acts (first + 1) (row + length x) session number at_row own read at
    (omega (arith, n)) (omega (arith, r, more)) is)

module _ {whole : List ℕ → ℕ} {unit components : ℕ} {lines : List Line} where
  pub reads_fit : (session made least : ℕ) (own : List (ℕ × Event))
      → ((read : ReadRow) → IsIn (session_reads session made least own) read
      → FitsLines whole unit components lines read)
      → ReadsFit whole unit components lines session made (untold own)
  reads_fit session made least [] fit = tt
  reads_fit session made least ((row, Posted value) ∷ own) fit =
      reads_fit session (made + 1) least own fit
  reads_fit session made least ((row, Saw at place value) ∷ own) fit =
      let here = fit _ (first_in (session_reads session made at own) _) in (
        here.within,
        here.value_is,
        here.own,
        reads_fit session made at own
            (λ read is. fit read (later_in _ _ read is)),
      )

  pub stamps_rise : (session made least : ℕ) (own : List (ℕ × Event))
      → ((read : ReadRow) → IsIn (session_reads session made least own) read
      → FitsLines whole unit components lines read)
      → StampsRise least (untold own)
  stamps_rise session made least [] fit = tt
  stamps_rise session made least ((row, Posted value) ∷ own) fit =
      stamps_rise session (made + 1) least own fit
  stamps_rise session made least ((row, Saw at place value) ∷ own) fit = (
    (fit _ (first_in (session_reads session made at own) _)).rises,
    stamps_rise session made at own (λ read is. fit read (later_in _ _ read is)),
  )

  -- right reads agree, whichever comes first
  pub agree_all : (reads : List ReadRow) → AreRightRows whole unit components lines reads
      → (one other : ReadRow) → IsIn reads one → IsIn reads other → Agree one other
  agree_all reads right one other first then = ⊎_elim
      (λ (same : first.index ≡ then.index).
      let is : one ≡ other = sym (get_or_from_slice_get reads first.index one one first.at)
      ∙ ap (λ i. get_or reads i one) same
      ∙ get_or_from_slice_get reads then.index other one then.at in
      subst (Agree one) is ((λ le. omega arith), (λ le. omega arith)))
      (λ (apart : first.index ≢ then.index). ⊎_elim
      (λ (le : first.index ≤ then.index).
      (right then.index other (slice_get_within reads then.index other then.at) then.at).agrees
      first.index one (omega (arith, le, apart)) first.at)
      (λ (lt : then.index < first.index).
      let back = (right first.index one (slice_get_within reads first.index one first.at)
      first.at).agrees then.index other lt then.at in
      (back.1, back.0))
      (le_or_lt first.index then.index))
      (same_or first.index then.index)

pub place_follows : (one : ReadRow) (session made least : ℕ) (others : List (ℕ × Event))
    → ((other : ReadRow) → IsIn (session_reads session made least others) other → Agree one other)
    → PlaceFollows one.stamp one.place (untold others)
place_follows one session made least [] each = tt
place_follows one session made least ((row, Posted value) ∷ others) each =
    place_follows one session (made + 1) least others each
place_follows one session made least ((row, Saw at place value) ∷ others) each = (
  each _ (first_in (session_reads session made at others) _),
  place_follows one session made at others (λ other is. each other (later_in _ _ other is)),
)

pub places_follow : (session made least : ℕ) (own : List (ℕ × Event)) (other : ℕ) (others : List (ℕ × Event))
    → ((x y : ReadRow) → IsIn (session_reads session made least own) x
    → IsIn (session_reads other 0 0 others) y → Agree x y)
    → PlacesFollow (untold own) (untold others)
places_follow session made least [] other others each = tt
places_follow session made least ((row, Posted value) ∷ own) other others each =
    places_follow session (made + 1) least own other others each
places_follow session made least ((row, Saw at place value) ∷ own) other others each = (
  place_follows (record { row = row; session = session; made = made; least = least; stamp = at; place = place; value = value }) other 0 0 others
      (λ y is. each _ y (first_in (session_reads session made at own) _) is),
  places_follow session made at own other others
      (λ x y in_own is. each x y (later_in _ _ x in_own) is),
)
