-- What was taken of rows that may follow one another: its rows, and how they grow by a line.
use Rattle.std.proofs.Common.{◌≡◌, ◌≢◌, ◌⊎◌, ℕ, zero, suc, ◌+◌, ◌<◌, ◌≤◌, ◌^◌, List, []}
use Rattle.std.proofs.Common.{◌∷◌, ◌++◌, length, refl, sym, ap, ◌∙◌, arith, map}
use Rattle.std.proofs.Common.{append_assoc, get_or, add-zero}
use Rattle.std.specs.List.{flat_map, enumerate_from, All}
use Rattle.std.proofs.lemmas.List.{append-nil, map-append, length_push, same_from_push}
use Rattle.std.proofs.lemmas.List.Elements.{All-head, All-tail, All-cons, All-nil, All-push}
use Rattle.risk_board.specs.declared.hand.Line.{Line}
use Rattle.risk_journal.specs.Reading.{Taken, put_line}
use Rattle.risk_journal.specs.Rows.{session_rows, tree_rows, FitsAct, FitsLine}
use Rattle.risk_journal.specs.JournalGrammar.{IsNoEnd, HasEnded, HasFullEnd}
use Rattle.risk_journal.specs.declared.rows.Row.{Row}
use Rattle.risk_journal.specs.declared.rows.Row.TheVariants.{OfSession, OfTree}
use Rattle.risk_journal.proofs.RowTexts.{AllFitAct, AllFitLine, IsShort}

-- the rows of what was taken
abbrev pub taken_rows : Taken → List Row
taken_rows taken =
    flat_map session_rows (enumerate_from 0 taken.ended)
    ++ map (OfSession (length taken.ended)) taken.begun
    ++ flat_map tree_rows (enumerate_from 0 taken.trees)

-- what was taken is sound
pub record IsGood (taken : Taken) : Type 0 where
  pub ended : All HasEnded taken.ended
  pub going : All IsNoEnd taken.begun
  pub acts_fit : All AllFitAct taken.ended
  pub begun_fit : All FitsAct taken.begun
  pub lines_fit : All AllFitLine taken.trees
  pub sessions : length taken.ended ≤ 2 ^ 32
  pub trees : length taken.trees ≤ 2 ^ 32
  pub places : All IsShort taken.trees
  pub full : HasFullEnd taken.trees
  pub apart : (taken.begun ≡ []) ⊎ ((taken.trees ≡ []) × (length taken.ended < 2 ^ 32))

enumerate_push : {X : Type 0} (n : ℕ) (xs : List X) (x : X)
    → enumerate_from n (xs ++ x ∷ []) ≡ enumerate_from n xs ++ (n + length xs, x) ∷ []
enumerate_push n [] x = ap (λ at. (at, x) ∷ []) (sym (add-zero n))
enumerate_push n (y ∷ xs) x =
    let place : n + 1 + length xs ≡ n + length (y ∷ xs) = omega arith in
    ap (λ rest. (n, y) ∷ rest) (enumerate_push (n + 1) xs x)
    ∙ ap (λ at. (n, y) ∷ (enumerate_from (n + 1) xs ++ (at, x) ∷ [])) place

-- a line more in a tree is a row more
tree_push : (n : ℕ) (lines : List Line) (line : Line)
    → tree_rows (n, lines ++ line ∷ [])
    ≡ tree_rows (n, lines) ++ OfTree n (length lines + 1) line ∷ []
tree_push n lines line =
    let place : 1 + length lines ≡ length lines + 1 = omega arith in
    let row : ℕ × Line → Row = λ placed. OfTree n placed.0 placed.1 in
    ap (map row) (enumerate_push 1 lines line)
    ∙ map-append row (enumerate_from 1 lines) ((1 + length lines, line) ∷ [])
    ∙ ap (λ at. map row (enumerate_from 1 lines) ++ OfTree n at line ∷ []) place

abbrev pub trees_rows : ℕ → List (List Line) → List Row
trees_rows m trees = flat_map tree_rows (enumerate_from m trees)

abbrev pub row_at : ℕ → ℕ → Line → List Row
row_at number place line = OfTree number place line ∷ []

pub put_row : (m : ℕ) (trees : List (List Line)) (n : ℕ) (line : Line) → length trees ≤ n + 1
    → trees_rows m (put_line trees n line)
    ≡ trees_rows m trees ++ row_at (m + n) (length (get_or trees n []) + 1) line
put_row m [] zero line few =
    let number : m ≡ m + 0 = omega arith in
    ap (λ at. row_at at 1 line) number
put_row m [] (suc n) line few =
    let number : m + 1 + n ≡ m + suc n = omega arith in
    put_row (m + 1) [] n line (omega arith) ∙ ap (λ at. row_at at 1 line) number
put_row m (lines ∷ []) zero line few =
    let number : m ≡ m + 0 = omega arith in
    append-nil (tree_rows (m, lines ++ line ∷ []))
    ∙ tree_push m lines line
    ∙ ap (λ own. own ++ row_at m (length lines + 1) line) (sym (append-nil (tree_rows (m, lines))))
    ∙ ap (λ at. (tree_rows (m, lines) ++ []) ++ row_at at (length lines + 1) line) number
put_row m (lines ∷ next ∷ trees) zero line few = absurd (omega arith)
put_row m (lines ∷ trees) (suc n) line few =
    let number : m + 1 + n ≡ m + suc n = omega arith in
    let place = length (get_or trees n []) + 1 in
    ap (λ rest. tree_rows (m, lines) ++ rest) (put_row (m + 1) trees n line (omega arith))
    ∙ sym (append_assoc (tree_rows (m, lines)) (trees_rows (m + 1) trees)
    (row_at (m + 1 + n) place line))
    ∙ ap (λ at. (tree_rows (m, lines) ++ trees_rows (m + 1) trees) ++ row_at at place line) number

-- a tree more that fits and is short
pub put_fits : (trees : List (List Line)) (n : ℕ) (line : Line) → FitsLine line
    → All AllFitLine trees → All AllFitLine (put_line trees n line)
put_fits [] zero line fits all =
    All-cons AllFitLine (line ∷ []) [] (All-cons FitsLine line [] fits (All-nil FitsLine)) all
put_fits [] (suc n) line fits all =
    All-cons AllFitLine [] (put_line [] n line) (All-nil FitsLine) (put_fits [] n line fits all)
put_fits (lines ∷ trees) zero line fits all =
    All-cons AllFitLine (lines ++ line ∷ []) trees
    (All-push FitsLine lines line (All-head AllFitLine lines trees all) fits)
    (All-tail AllFitLine lines trees all)
put_fits (lines ∷ trees) (suc n) line fits all =
    All-cons AllFitLine lines (put_line trees n line) (All-head AllFitLine lines trees all)
    (put_fits trees n line fits (All-tail AllFitLine lines trees all))

short_more : (lines : List Line) (line : Line) → length lines + 1 < 2 ^ 32
    → IsShort (lines ++ line ∷ [])
short_more lines line h = omega (arith, length_push lines line)

pub put_short : (trees : List (List Line)) (n : ℕ) (line : Line)
    → length (get_or trees n []) + 1 < 2 ^ 32
    → All IsShort trees → All IsShort (put_line trees n line)
put_short [] zero line few all = All-cons IsShort (line ∷ []) [] (omega arith) all
put_short [] (suc n) line few all =
    All-cons IsShort [] (put_line [] n line) (omega arith) (put_short [] n line few all)
put_short (lines ∷ trees) zero line few all =
    All-cons IsShort (lines ++ line ∷ []) trees (short_more lines line few)
    (All-tail IsShort lines trees all)
put_short (lines ∷ trees) (suc n) line few all =
    All-cons IsShort lines (put_line trees n line) (All-head IsShort lines trees all)
    (put_short trees n line few (All-tail IsShort lines trees all))

-- the tree with a line more is the last
pub put_last : (trees : List (List Line)) (n : ℕ) (line : Line) → length trees ≤ n + 1
    → (front : List (List Line)) × (own : List Line)
    × (put_line trees n line ≡ front ++ (own ++ line ∷ []) ∷ [])
put_last [] zero line few = ([], [], refl)
put_last [] (suc n) line few =
    let later = put_last [] n line (omega arith) in
    ([] ∷ later.0, later.1, ap (λ own. [] ∷ own) later.2)
put_last (lines ∷ []) zero line few = ([], lines, refl)
put_last (lines ∷ next ∷ trees) zero line few = absurd (omega arith)
put_last (lines ∷ trees) (suc n) line few =
    let later = put_last trees n line (omega arith) in
    (lines ∷ later.0, later.1, ap (λ own. lines ∷ own) later.2)

no_nil : (own : List Line) (line : Line) → own ++ line ∷ [] ≢ []
no_nil [] line e = absurd cc
no_nil (x ∷ own) line e = absurd cc

pub put_full : (trees : List (List Line)) (n : ℕ) (line : Line) → length trees ≤ n + 1
    → HasFullEnd (put_line trees n line)
put_full trees n line few other e =
    let last = put_last trees n line few in
    let same = same_from_push last.0 other (last.1 ++ line ∷ []) [] (sym last.2 ∙ e) in
    no_nil last.1 line same.1
