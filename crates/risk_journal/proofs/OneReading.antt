-- A text is at most one journal, or has at most one first fault.
use Rattle.std.proofs.Common.{◌≡◌, ℕ, zero, suc, ◌+◌, ◌<◌, List, []}
use Rattle.std.proofs.Common.{◌∷◌, ◌++◌, length, refl, sym, ap, ◌∙◌, arith, subst}
use Rattle.std.proofs.Common.{append_assoc, replicate}
use Rattle.std.specs.List.{All}
use Rattle.std.proofs.lemmas.List.{append-nil, append_cancel_left, replicate_more}
use Rattle.std.proofs.lemmas.List.Concat.{flat_map-append}
use Rattle.std.proofs.lemmas.List.Elements.{All-head, All-tail}
use Rattle.risk_board.specs.declared.hand.Line.{Line}
use Rattle.risk_journal.specs.Reading.{Taken, none_taken, with_rows}
use Rattle.risk_journal.specs.Rows.{journal_rows}
use Rattle.risk_journal.specs.JournalText.{journal_text, header_text}
use Rattle.risk_journal.specs.JournalGrammar.{HasFullEnd, IsSound, IsJournal, rows_text, IsRow}
use Rattle.risk_journal.specs.JournalGrammar.{BeginJournal, IsFirstFault, IsWithoutEmptyEnd}
use Rattle.risk_journal.specs.declared.acts.Act.{Act}
use Rattle.risk_journal.proofs.RowBytes.{one_cut}
use Rattle.risk_journal.proofs.RowTexts.{text_of_rows, journal_text_is, rows_fit, rows_first}
use Rattle.risk_journal.proofs.TreeWalks.{in_trees, Keeps}
use Rattle.risk_journal.proofs.Reached.{journal_leads, nothing_in}

-- journals with one text have the same rows
same_rows : (acts : List (List Act)) (lines : List (List Line)) (others : List (List Act))
    (trees : List (List Line)) → IsSound acts lines → IsSound others trees
    → journal_text acts lines ≡ journal_text others trees
    → journal_rows acts lines ≡ journal_rows others trees
same_rows acts lines others trees sound too e =
    let left = journal_rows acts lines in
    let right = journal_rows others trees in
    let same : text_of_rows left ++ [] ≡ text_of_rows right =
    append-nil (text_of_rows left)
    ∙ append_cancel_left header_text (text_of_rows left) (text_of_rows right)
    (sym (journal_text_is acts lines) ∙ e ∙ journal_text_is others trees) in
    let first = rows_first left right [] (rows_fit acts lines sound) (rows_fit others trees too)
    same in
    sym (first.split ∙ ap (λ later. left ++ later) (nothing_in first.later first.is)
    ∙ append-nil left)

-- no list of trees ends in an empty one that was left off
nothing_left_off : (front : List (List Line)) (n : ℕ) → HasFullEnd (front ++ replicate n [])
    → n ≡ 0
nothing_left_off front zero full = refl
nothing_left_off front (suc n) full =
    let none : List Line = [] in
    let number : n + 1 ≡ suc n = omega arith in
    absurd (full (front ++ replicate n [])
    (ap (λ own. front ++ own)
    (sym (replicate_more n none ∙ ap (λ count. replicate count none) number))
    ∙ sym (append_assoc front (replicate n []) ([] ∷ []))))

full_keeps : (trees kept : List (List Line)) → Keeps trees kept → HasFullEnd trees → trees ≡ kept
full_keeps trees kept keeps full =
    let full_too = subst HasFullEnd keeps.is full in
    let none = nothing_left_off kept keeps.empty full_too in
    keeps.is ∙ ap (λ count. kept ++ replicate count []) none ∙ append-nil kept

-- what is read of a journal's text is the journal, but for empty trees at the end
pub written_is_read : (acts : List (List Act)) (lines : List (List Line)) (read : List (List Act))
    (trees : List (List Line)) → IsSound acts lines → IsJournal (journal_text acts lines) read trees
    → (read ≡ acts) × IsWithoutEmptyEnd lines trees
written_is_read acts lines read trees sound journal =
    let rows = same_rows acts lines read trees sound journal.sound journal.is in
    let own = journal_leads acts lines sound in
    let other = journal_leads read trees journal.sound in
    let same : in_trees acts own.kept ≡ in_trees read other.kept =
    sym own.leads.left ∙ ap (with_rows none_taken) rows ∙ other.leads.left in
    let kept : own.kept ≡ other.kept = ap (λ (taken : Taken). taken.trees) same in
    let full : trees ≡ other.kept = full_keeps trees other.kept other.keeps journal.full in (
      sym (ap (λ (taken : Taken). taken.ended) same),
      record {
        empty = own.keeps.empty;
        is = own.keeps.is
            ∙ ap (λ front. front ++ replicate own.keeps.empty []) (kept ∙ sym full);
        full = journal.full;
      },
    )

pub one_journal : (text : List ℕ) (acts : List (List Act)) (lines : List (List Line))
    (others : List (List Act)) (trees : List (List Line))
    → IsJournal text acts lines → IsJournal text others trees → (acts ≡ others) × (lines ≡ trees)
one_journal text acts lines others trees journal other =
    let P : List ℕ → Type 0 = λ own. IsJournal own others trees in
    let read = written_is_read acts lines others trees journal.sound (subst P journal.is other) in
    let keeps : Keeps lines trees = record {
      empty = read.1.empty;
      is = read.1.is;
      full = read.1.full;
    } in
    (sym read.0, full_keeps lines trees keeps journal.full)

pub not_both : (text : List ℕ) (acts : List (List Act)) (lines : List (List Line)) (number : ℕ)
    → IsJournal text acts lines → IsFirstFault text number → ⊥
not_both text acts lines number journal fault =
    fault.no_journal acts lines journal.sound journal.is

-- the next row of a text whose longer front is told
pub record NextRow (rows others : List (List ℕ)) (rest : List ℕ) : Type 0 where
  pub row : List ℕ
  pub later : List (List ℕ)
  pub more : List ℕ
  pub is_row : IsRow row
  pub split : others ≡ (rows ++ row ∷ []) ++ later
  pub is : rest ≡ row ++ 10 ∷ more

next_row : (rows others : List (List ℕ)) (rest more : List ℕ) → All IsRow rows → All IsRow others
    → rows_text rows ++ rest ≡ rows_text others ++ more → length rows < length others
    → NextRow rows others rest
next_row rows [] rest more is too e few = absurd (omega arith)
next_row [] (row ∷ others) rest more is too e few = record {
  row = row;
  later = others;
  more = rows_text others ++ more;
  is_row = All-head IsRow row others too;
  split = refl;
  is = e ∙ ap (λ own. own ++ more) (append_assoc row (10 ∷ []) (rows_text others))
      ∙ append_assoc row (10 ∷ rows_text others) more;
}
next_row (line ∷ rows) (row ∷ others) rest more is too e few =
    let left : line ++ 10 ∷ (rows_text rows ++ rest) ≡ row ++ 10 ∷ (rows_text others ++ more) =
    sym (append_assoc line (10 ∷ rows_text rows) rest)
    ∙ ap (λ own. own ++ rest) (sym (append_assoc line (10 ∷ []) (rows_text rows))) ∙ e
    ∙ ap (λ own. own ++ more) (append_assoc row (10 ∷ []) (rows_text others))
    ∙ append_assoc row (10 ∷ rows_text others) more in
    let cut = one_cut line row (rows_text rows ++ rest) (rows_text others ++ more)
    (All-head IsRow line rows is) (All-head IsRow row others too) left in
    let next = next_row rows others rest more (All-tail IsRow line rows is)
    (All-tail IsRow row others too) cut.1 (omega arith) in
    record {
      row = next.row;
      later = next.later;
      more = next.more;
      is_row = next.is_row;
      split = ap (λ own. own ∷ others) (sym cut.0) ∙ ap (λ own. line ∷ own) next.split;
      is = next.is;
    }

rows_text-append : (rows more : List (List ℕ))
    → rows_text (rows ++ more) ≡ rows_text rows ++ rows_text more
rows_text-append rows more = flat_map-append (λ row. row ++ 10 ∷ []) rows more

begins_less : (rows later : List (List ℕ)) → BeginJournal (rows ++ later) → BeginJournal rows
begins_less rows later journal = record {
  acts = journal.acts;
  lines = journal.lines;
  more = rows_text later ++ journal.more;
  sound = journal.sound;
  is = journal.is ∙ ap (λ own. own ++ journal.more) (rows_text-append rows later)
      ∙ append_assoc (rows_text rows) (rows_text later) journal.more;
}

not_later : (text : List ℕ) (m n : ℕ) → IsFirstFault text m → IsFirstFault text n → m < n → ⊥
not_later text m n fault other less =
    let next = next_row fault.rows other.rows fault.rest other.rest fault.each other.each
    (sym fault.split ∙ other.split) (omega (arith, fault.count, other.count)) in
    fault.none next.row next.more next.is_row next.is
    (begins_less (fault.rows ++ next.row ∷ []) next.later
    (subst BeginJournal next.split other.before))

pub one_fault : (text : List ℕ) (m n : ℕ) → IsFirstFault text m → IsFirstFault text n → m ≡ n
one_fault text m n fault other =
    let less : m < n → ⊥ = not_later text m n fault other in
    let more : n < m → ⊥ = not_later text n m other fault in
    omega arith
