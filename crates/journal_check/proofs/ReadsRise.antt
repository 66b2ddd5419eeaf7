-- The reads of a tree stand in order of row, and each is of one of the sessions.
use Rattle.std.proofs.Common.{◌≡◌, ℕ, zero, suc, ◌+◌, ◌<◌, ◌≤◌, List, [], ◌∷◌, ◌++◌, length, subst}
use Rattle.std.proofs.Common.{arith, cond, true, false, ◌==◌, ⊎_elim}
use Rattle.std.specs.Prelude.{slice_get, Some}
use Rattle.std.proofs.lemmas.Option.{none-some, get_or_from_slice_get}
use Rattle.risk_board.specs.History.{Event}
use Rattle.risk_board.specs.History.Event.{Posted, Saw}
use Rattle.risk_journal.specs.declared.acts.Act.{Act}
use Rattle.risk_journal.specs.declared.acts.Act.TheVariants.{Post, Read, Sent, Refused, Noted, Ended}
use Rattle.journal_check.specs.ReadRows.{ReadRow, told_events, session_reads, reads_from, tree_reads}
use Rattle.journal_check.proofs.Cases.{le_or_lt}

-- no read stands in a row before this one, and none in a row before that of an earlier read
abbrev pub Rise : ℕ → List ReadRow → Type 0
Rise least [] = Unit {0}
Rise least (read ∷ reads) = (least ≤ read.row) × Rise read.row reads

rise_lower : (low high : ℕ) (reads : List ReadRow) → low ≤ high → Rise high reads → Rise low reads
rise_lower low high [] le rise = tt
rise_lower low high (read ∷ reads) le rise = (omega (arith, le, rise.0), rise.1)

next : (row : ℕ) (acts : List Act) (later : List ReadRow) → Rise (row + suc (length acts)) later
    → Rise ((row + 1) + length acts) later
next row acts later rise =
    let one : row + suc (length acts) ≡ (row + 1) + length acts = omega arith in
    subst (λ (n : ℕ). Rise n later) one rise

session_rise : (tree session row made least : ℕ) (acts : List Act) (later : List ReadRow)
    → Rise (row + length acts) later
    → Rise row (session_reads session made least (told_events tree row acts) ++ later)
session_rise tree session row made least [] later rise = rise_lower row (row + 0) later (omega arith) rise
session_rise tree session row made least (Post in_tree index value ∷ acts) later rise =
    let more = next row acts later rise in
    elim (in_tree == tree) as (λ b. Rise row (session_reads session made least
    (cond b ((row, Posted value) ∷ told_events tree (row + 1) acts) (told_events tree (row + 1) acts)) ++ later)) [
      | true ↦ rise_lower row (row + 1) _ (omega arith)
          (session_rise tree session (row + 1) (made + 1) least acts later more)
      | false ↦ rise_lower row (row + 1) _ (omega arith)
          (session_rise tree session (row + 1) made least acts later more)
    ]
session_rise tree session row made least (Read in_tree stamp place value ∷ acts) later rise =
    let more = next row acts later rise in
    elim (in_tree == tree) as (λ b. Rise row (session_reads session made least
    (cond b ((row, Saw stamp place value) ∷ told_events tree (row + 1) acts) (told_events tree (row + 1) acts)) ++ later)) [
      | true ↦ (
        omega arith,
        rise_lower row (row + 1) _ (omega arith)
            (session_rise tree session (row + 1) made stamp acts later more),
      )
      | false ↦ rise_lower row (row + 1) _ (omega arith)
          (session_rise tree session (row + 1) made least acts later more)
    ]
session_rise tree session row made least (Sent frame ∷ acts) later rise =
    rise_lower row (row + 1) _ (omega arith)
    (session_rise tree session (row + 1) made least acts later (next row acts later rise))
session_rise tree session row made least (Refused frame code first second ∷ acts) later rise =
    rise_lower row (row + 1) _ (omega arith)
    (session_rise tree session (row + 1) made least acts later (next row acts later rise))
session_rise tree session row made least (Noted frame code first second ∷ acts) later rise =
    rise_lower row (row + 1) _ (omega arith)
    (session_rise tree session (row + 1) made least acts later (next row acts later rise))
session_rise tree session row made least (Ended end ∷ acts) later rise =
    rise_lower row (row + 1) _ (omega arith)
    (session_rise tree session (row + 1) made least acts later (next row acts later rise))

reads_rise : (tree session row : ℕ) (acts : List (List Act))
    → Rise row (reads_from tree session row acts)
reads_rise tree session row [] = tt
reads_rise tree session row (own ∷ acts) =
    session_rise tree session row 0 0 own (reads_from tree (session + 1) (row + length own) acts)
    (reads_rise tree (session + 1) (row + length own) acts)

least_row : (least : ℕ) (reads : List ReadRow) (index : ℕ) (read : ReadRow) → Rise least reads
    → slice_get reads index ≡ Some read → least ≤ read.row
least_row least [] index read rise at = absurd (none-some read at)
least_row least (x ∷ reads) zero read rise at =
    let is : x ≡ read = get_or_from_slice_get (x ∷ reads) 0 read x at in
    subst (λ (r : ReadRow). least ≤ r.row) is rise.0
least_row least (x ∷ reads) (suc index) read rise at =
    omega (arith, rise.0, least_row x.row reads index read rise.1 at)

rows_in_order : (least : ℕ) (reads : List ReadRow) (first last : ℕ) (one other : ReadRow)
    → Rise least reads → first ≤ last → slice_get reads first ≡ Some one
    → slice_get reads last ≡ Some other → one.row ≤ other.row
rows_in_order least [] first last one other rise le at also = absurd (none-some one at)
rows_in_order least (x ∷ reads) zero last one other rise le at also =
    let is : x ≡ one = get_or_from_slice_get (x ∷ reads) 0 one x at in
    subst (λ (r : ReadRow). r.row ≤ other.row) is
    (least_row x.row (x ∷ reads) last other (omega arith, rise.1) also)
rows_in_order least (x ∷ reads) (suc first) zero one other rise le at also = absurd (omega (arith, le))
rows_in_order least (x ∷ reads) (suc first) (suc last) one other rise le at also =
    rows_in_order x.row reads first last one other rise.1 (omega (arith, le)) at also

-- a read that stands in an earlier row of a tree comes before
pub earlier_row : (tree : ℕ) (acts : List (List Act)) (index place : ℕ) (read other : ReadRow)
    → slice_get (tree_reads tree acts) index ≡ Some read
    → slice_get (tree_reads tree acts) place ≡ Some other → other.row < read.row → place < index
earlier_row tree acts index place read other at also less = ⊎_elim
    (λ (le : index ≤ place).
    absurd (omega (
      arith,
      less,
      rows_in_order 2 (tree_reads tree acts) index place read other
          (reads_rise tree 0 2 acts) le at also,
    )))
    (λ (lt : place < index). lt)
    (le_or_lt index place)

-- each read is of a session below a number
abbrev AreBelow : ℕ → List ReadRow → Type 0
AreBelow count reads = (index : ℕ) (read : ReadRow) → slice_get reads index ≡ Some read
    → read.session < count

below-append : (count : ℕ) (xs ys : List ReadRow) → AreBelow count xs → AreBelow count ys
    → AreBelow count (xs ++ ys)
below-append count [] ys one other index read at = other index read at
below-append count (x ∷ xs) ys one other zero read at = one 0 read at
below-append count (x ∷ xs) ys one other (suc index) read at =
    below-append count xs ys (λ i r is. one (suc i) r is) other index read at

session_below : (count session made least : ℕ) (own : List (ℕ × Event)) → session < count
    → AreBelow count (session_reads session made least own)
session_below count session made least [] less index read at = absurd (none-some read at)
session_below count session made least ((row, Posted value) ∷ own) less index read at =
    session_below count session (made + 1) least own less index read at
session_below count session made least ((row, Saw stamp place value) ∷ own) less zero read at =
    let first : ReadRow = record {
      row = row;
      session = session;
      made = made;
      least = least;
      stamp = stamp;
      place = place;
      value = value;
    } in
    subst (λ (r : ReadRow). r.session < count)
    (get_or_from_slice_get (first ∷ []) 0 read first at) less
session_below count session made least ((row, Saw stamp place value) ∷ own) less (suc index) read at =
    session_below count session made stamp own less index read at

sessions_below : (tree count session row : ℕ) (acts : List (List Act))
    → session + length acts ≤ count → AreBelow count (reads_from tree session row acts)
sessions_below tree count session row [] le index read at = absurd (none-some read at)
sessions_below tree count session row (own ∷ acts) le index read at =
    below-append count (session_reads session 0 0 (told_events tree row own))
    (reads_from tree (session + 1) (row + length own) acts)
    (session_below count session 0 0 (told_events tree row own) (omega (arith, le)))
    (sessions_below tree count (session + 1) (row + length own) acts (omega (arith, le))) index read at

-- each read of a tree is of one of the sessions
pub reads_below : (tree : ℕ) (acts : List (List Act)) (index : ℕ) (read : ReadRow)
    → slice_get (tree_reads tree acts) index ≡ Some read → read.session < length acts
reads_below tree acts = sessions_below tree (length acts) 0 2 acts (omega arith)
