-- The text of a journal is that of its rows, and a text's rows are the same whoever wrote it.
use Rattle.std.proofs.Common.{◌≡◌, ℕ, ◌+◌, ◌<◌, ◌≤◌, ◌^◌, List, [], ◌∷◌, ◌++◌, length, refl, sym}
use Rattle.std.proofs.Common.{ap, ◌∙◌, arith, map, append_assoc}
use Rattle.std.specs.List.{flat_map, enumerate_from, All, join_with_byte}
use Rattle.std.proofs.lemmas.List.Concat.{flat_map-append}
use Rattle.std.proofs.lemmas.List.Elements.{All-head, All-tail, All-cons, All-nil, All-append}
use Rattle.risk_board.specs.declared.hand.Line.{Line}
use Rattle.risk_journal.specs.JournalText.{journal_text, session_text, tree_text, act_text}
use Rattle.risk_journal.specs.JournalText.{line_text}
use Rattle.risk_journal.specs.JournalText.{header_text}
use Rattle.risk_journal.specs.Rows.{text_of_row, session_rows, tree_rows, journal_rows, FitsRow}
use Rattle.risk_journal.specs.Rows.{FitsAct, FitsLine, columns_of, column_cells}
use Rattle.risk_journal.specs.JournalGrammar.{IsSound, IsRow}
use Rattle.risk_journal.specs.declared.acts.Act.{Act}
use Rattle.risk_journal.specs.declared.rows.Row.{Row}
use Rattle.risk_journal.specs.declared.rows.Row.TheVariants.{OfSession, OfTree}
use Rattle.risk_journal.proofs.RowBytes.{columns_row, one_cut}
use Rattle.risk_journal.proofs.RowColumns.{row_text_is, columns_fit, text_injective}

-- the text of rows
abbrev pub text_of_rows : List Row → List ℕ
text_of_rows rows = flat_map text_of_row rows

session_text_is : (n : ℕ) (acts : List Act)
    → flat_map (act_text n) acts ≡ text_of_rows (map (OfSession n) acts)
session_text_is n [] = refl
session_text_is n (act ∷ acts) = ap (λ rest. act_text n act ++ rest) (session_text_is n acts)

sessions_text_is : (n : ℕ) (sessions : List (List Act))
    → flat_map session_text (enumerate_from n sessions)
    ≡ text_of_rows (flat_map session_rows (enumerate_from n sessions))
sessions_text_is n [] = refl
sessions_text_is n (acts ∷ sessions) =
    ap (λ own. own ++ flat_map session_text (enumerate_from (n + 1) sessions))
    (session_text_is n acts)
    ∙ ap (λ rest. text_of_rows (map (OfSession n) acts) ++ rest) (sessions_text_is (n + 1) sessions)
    ∙ sym (flat_map-append text_of_row (map (OfSession n) acts)
    (flat_map session_rows (enumerate_from (n + 1) sessions)))

abbrev rows_from : ℕ → ℕ → List Line → List Row
rows_from n place lines = map (λ placed. OfTree n placed.0 placed.1) (enumerate_from place lines)

tree_text_is : (n place : ℕ) (lines : List Line)
    → flat_map (λ placed. line_text n placed.0 placed.1) (enumerate_from place lines)
    ≡ text_of_rows (rows_from n place lines)
tree_text_is n place [] = refl
tree_text_is n place (line ∷ lines) =
    ap (λ rest. line_text n place line ++ rest) (tree_text_is n (place + 1) lines)

trees_text_is : (n : ℕ) (trees : List (List Line))
    → flat_map tree_text (enumerate_from n trees)
    ≡ text_of_rows (flat_map tree_rows (enumerate_from n trees))
trees_text_is n [] = refl
trees_text_is n (lines ∷ trees) =
    ap (λ own. own ++ flat_map tree_text (enumerate_from (n + 1) trees)) (tree_text_is n 1 lines)
    ∙ ap (λ rest. text_of_rows (rows_from n 1 lines) ++ rest) (trees_text_is (n + 1) trees)
    ∙ sym (flat_map-append text_of_row (rows_from n 1 lines)
    (flat_map tree_rows (enumerate_from (n + 1) trees)))

-- the text of a journal is the header and its rows
pub journal_text_is : (acts : List (List Act)) (lines : List (List Line))
    → journal_text acts lines ≡ header_text ++ text_of_rows (journal_rows acts lines)
journal_text_is acts lines =
    let sessions = flat_map session_text (enumerate_from 0 acts) in
    let trees = flat_map tree_text (enumerate_from 0 lines) in
    append_assoc header_text sessions trees
    ∙ ap (λ own. header_text ++ (own ++ trees)) (sessions_text_is 0 acts)
    ∙ ap (λ own. header_text
    ++ (text_of_rows (flat_map session_rows (enumerate_from 0 acts)) ++ own))
    (trees_text_is 0 lines)
    ∙ ap (λ own. header_text ++ own)
    (sym (flat_map-append text_of_row (flat_map session_rows (enumerate_from 0 acts))
    (flat_map tree_rows (enumerate_from 0 lines))))

session_fits : (n : ℕ) (acts : List Act) → n < 2 ^ 32 → All FitsAct acts
    → All FitsRow (map (OfSession n) acts)
session_fits n [] small fit = All-nil FitsRow
session_fits n (act ∷ acts) small fit =
    All-cons FitsRow (OfSession n act) (map (OfSession n) acts)
    (small, All-head FitsAct act acts fit)
    (session_fits n acts small (All-tail FitsAct act acts fit))

abbrev pub AllFitAct : List Act → Type 0
AllFitAct acts = All FitsAct acts

abbrev pub AllFitLine : List Line → Type 0
AllFitLine lines = All FitsLine lines

abbrev pub IsShort : List Line → Type 0
IsShort lines = length lines < 2 ^ 32

sessions_fit : (n : ℕ) (sessions : List (List Act)) → n + length sessions ≤ 2 ^ 32
    → All AllFitAct sessions → All FitsRow (flat_map session_rows (enumerate_from n sessions))
sessions_fit n [] few fit = All-nil FitsRow
sessions_fit n (acts ∷ sessions) few fit =
    All-append FitsRow (map (OfSession n) acts)
    (flat_map session_rows (enumerate_from (n + 1) sessions))
    (session_fits n acts (omega arith) (All-head AllFitAct acts sessions fit))
    (sessions_fit (n + 1) sessions (omega arith) (All-tail AllFitAct acts sessions fit))

tree_fits : (n place : ℕ) (lines : List Line) → n < 2 ^ 32 → place + length lines ≤ 2 ^ 32
    → All FitsLine lines → All FitsRow (rows_from n place lines)
tree_fits n place [] small few fit = All-nil FitsRow
tree_fits n place (line ∷ lines) small few fit =
    All-cons FitsRow (OfTree n place line) (rows_from n (place + 1) lines)
    (small, omega arith, All-head FitsLine line lines fit)
    (tree_fits n (place + 1) lines small (omega arith) (All-tail FitsLine line lines fit))

trees_fit : (n : ℕ) (trees : List (List Line)) → n + length trees ≤ 2 ^ 32
    → All AllFitLine trees → All IsShort trees
    → All FitsRow (flat_map tree_rows (enumerate_from n trees))
trees_fit n [] few fit short = All-nil FitsRow
trees_fit n (lines ∷ trees) few fit short =
    let own : length lines < 2 ^ 32 = All-head IsShort lines trees short in
    All-append FitsRow (rows_from n 1 lines) (flat_map tree_rows (enumerate_from (n + 1) trees))
    (tree_fits n 1 lines (omega arith) (omega arith) (All-head AllFitLine lines trees fit))
    (trees_fit (n + 1) trees (omega arith) (All-tail AllFitLine lines trees fit)
    (All-tail IsShort lines trees short))

-- the rows of a sound journal fit
pub rows_fit : (acts : List (List Act)) (lines : List (List Line)) → IsSound acts lines
    → All FitsRow (journal_rows acts lines)
rows_fit acts lines sound =
    All-append FitsRow (flat_map session_rows (enumerate_from 0 acts))
    (flat_map tree_rows (enumerate_from 0 lines))
    (sessions_fit 0 acts (omega (arith, sound.sessions)) sound.acts_fit)
    (trees_fit 0 lines (omega (arith, sound.trees)) sound.lines_fit sound.places)

-- a row's text without LF
abbrev pub bytes_of_row : Row → List ℕ
bytes_of_row row = join_with_byte 44 (column_cells (columns_of row))

pub row_is : (row : Row) → FitsRow row → IsRow (bytes_of_row row)
row_is row fits = columns_row (columns_of row) (columns_fit row fits)

-- what follows rows that begin a text of rows
pub record Follows (all rows : List Row) (more : List ℕ) : Type 0 where
  pub later : List Row
  pub split : all ≡ rows ++ later
  pub is : more ≡ text_of_rows later
  pub fit : All FitsRow later

pub first_row : (row : Row) (rows : List Row) → text_of_rows (row ∷ rows)
    ≡ bytes_of_row row ++ 10 ∷ text_of_rows rows
first_row row rows =
    ap (λ own. own ++ text_of_rows rows) (row_text_is row)
    ∙ append_assoc (bytes_of_row row) (10 ∷ []) (text_of_rows rows)

no_empty : (front rest more : List ℕ) → (front ++ 10 ∷ rest) ++ more ≡ [] → ⊥
no_empty [] rest more e = absurd cc
no_empty (byte ∷ front) rest more e = absurd cc

same_text : (row other : Row) → bytes_of_row row ≡ bytes_of_row other
    → text_of_row row ≡ text_of_row other
same_text row other e =
    row_text_is row ∙ ap (λ bytes. bytes ++ 10 ∷ []) e ∙ sym (row_text_is other)

-- rows that begin a text of rows are the first of its rows
pub rows_first : (rows all : List Row) (more : List ℕ) → All FitsRow rows → All FitsRow all
    → text_of_rows rows ++ more ≡ text_of_rows all → Follows all rows more
rows_first [] all more fit too e = record { later = all; split = refl; is = e; fit = too }
rows_first (row ∷ rows) [] more fit too e =
    absurd (no_empty (bytes_of_row row) (text_of_rows rows) more
    (ap (λ own. own ++ more) (sym (first_row row rows)) ∙ e))
rows_first (row ∷ rows) (other ∷ all) more fit too e =
    let left : bytes_of_row row ++ 10 ∷ (text_of_rows rows ++ more)
    ≡ bytes_of_row other ++ 10 ∷ text_of_rows all =
    sym (append_assoc (bytes_of_row row) (10 ∷ text_of_rows rows) more)
    ∙ ap (λ own. own ++ more) (sym (first_row row rows)) ∙ e ∙ first_row other all in
    let fits = All-head FitsRow row rows fit in
    let fits_too = All-head FitsRow other all too in
    let cut = one_cut (bytes_of_row row) (bytes_of_row other) (text_of_rows rows ++ more)
    (text_of_rows all) (row_is row fits) (row_is other fits_too) left in
    let same : row ≡ other = text_injective row other fits fits_too (same_text row other cut.0) in
    let next = rows_first rows all more (All-tail FitsRow row rows fit)
    (All-tail FitsRow other all too) cut.1 in
    record {
      later = next.later;
      split = ap (λ own. own ∷ all) (sym same) ∙ ap (λ own. row ∷ own) next.split;
      is = next.is;
      fit = next.fit;
    }
