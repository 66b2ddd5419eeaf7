-- The bytes of rows: no cell has a comma or LF, and a text is cut at its LFs in one way.
use Rattle.std.proofs.Common.{◌≡◌, ◌≢◌, ℕ, ◌<◌, ◌^◌, List, [], ◌∷◌, ◌++◌, refl}
use Rattle.std.proofs.Common.{ap, ◌∙◌, arith, rules, codes, decimal, Option, Some, None}
use Rattle.std.proofs.Common.{false}
use Rattle.std.specs.List.{All, join_with_byte, slice_split, AllByRecursion}
use Rattle.std.specs.Str.Parse.{AllDigits}
use Rattle.std.proofs.lemmas.Bool.Decides.{nat_tests}
use Rattle.std.proofs.lemmas.List.Elements.{All-head, All-tail, All-cons, All-nil, All-append}
use Rattle.std.proofs.lemmas.List.Elements.{All-weaker, All-from_recursion}
use Rattle.std.proofs.lemmas.List.Splits.{slice_split_at, slice_split_none}
use Rattle.std.proofs.lemmas.Fmt.{decimal_is_IsNumeral}
use Rattle.std.proofs.lemmas.Str.Parse.{digit_from_value}
use Rattle.risk_journal.specs.Rows.{kind_text, FitsColumn, FitColumns, column_cells}
use Rattle.risk_journal.specs.RowCells.{cell_text, is_comma}
use Rattle.risk_journal.specs.JournalGrammar.{IsRow}
use Rattle.risk_journal.specs.declared.rows.Kind.{Kind}
use Rattle.risk_journal.specs.declared.rows.Kind.TheVariants as kind
use Rattle.risk_journal.specs.declared.rows.Columns.{Columns}

-- each byte is above the comma
abbrev pub IsCell : List ℕ → Type 0
IsCell cell = All (λ byte. 44 < byte) cell

digit_cell : (ds : List ℕ) → AllDigits 10 ds → IsCell ds
digit_cell [] h = All-nil (λ byte. 44 < byte)
digit_cell (d ∷ ds) h =
    All-cons (λ byte. 44 < byte) d ds (omega (arith, digit_from_value d h.0)) (digit_cell ds h.1)

pub decimal_cell : (n : ℕ) → n < 2 ^ 64 → IsCell (decimal n)
decimal_cell n fits = digit_cell (decimal n) (decimal_is_IsNumeral n fits).0.1

letters : (word : List ℕ) → AllByRecursion (λ byte. 44 < byte) word → IsCell word
letters word h = All-from_recursion (λ byte. 44 < byte) word h

pub kind_cell : (k : Kind) → IsCell (kind_text k)
kind_cell kind.Post = letters (codes "post") (search rules)
kind_cell kind.Read = letters (codes "read") (search rules)
kind_cell kind.Sent = letters (codes "sent") (search rules)
kind_cell kind.Refused = letters (codes "refused") (search rules)
kind_cell kind.Noted = letters (codes "noted") (search rules)
kind_cell kind.Ended = letters (codes "ended") (search rules)
kind_cell kind.Line = letters (codes "line") (search rules)

pub column_cell : (column : Option ℕ) → FitsColumn column → IsCell (cell_text column)
column_cell None h = All-nil (λ byte. 44 < byte)
column_cell (Some n) h = decimal_cell n h

above_no_comma : (byte : ℕ) → 44 < byte → is_comma byte ≡ false
above_no_comma byte h = grind (arith, nat_tests)

no_comma : (cell : List ℕ) → IsCell cell → All (λ byte. is_comma byte ≡ false) cell
no_comma cell h =
    All-weaker (λ byte. 44 < byte) (λ byte. is_comma byte ≡ false) above_no_comma cell h

-- cells are what their row is split into at commas
pub split_cells : (x : List ℕ) (xs : List (List ℕ)) → IsCell x → All IsCell xs
    → slice_split is_comma (join_with_byte 44 (x ∷ xs)) ≡ x ∷ xs
split_cells x [] is all = slice_split_none is_comma x (no_comma x is)
split_cells x (y ∷ ys) is all =
    slice_split_at is_comma x 44 (join_with_byte 44 (y ∷ ys)) (no_comma x is) refl
    ∙ ap (λ parts. x ∷ parts)
    (split_cells y ys (All-head IsCell y ys all) (All-tail IsCell y ys all))

all_six : (p q r s t u : List ℕ) → IsCell p → IsCell q → IsCell r → IsCell s → IsCell t → IsCell u
    → All IsCell (q ∷ r ∷ s ∷ t ∷ u ∷ [])
all_six p q r s t u a b c d e f =
    All-cons IsCell q (r ∷ s ∷ t ∷ u ∷ []) b
    (All-cons IsCell r (s ∷ t ∷ u ∷ []) c
    (All-cons IsCell s (t ∷ u ∷ []) d
    (All-cons IsCell t (u ∷ []) e
    (All-cons IsCell u [] f (All-nil IsCell)))))

-- the cells behind the kind
abbrev later : Columns → List (List ℕ)
later columns =
    decimal columns.session ∷ cell_text columns.a ∷ cell_text columns.b ∷ cell_text columns.c
    ∷ cell_text columns.d ∷ []

later_cells : (columns : Columns) → FitColumns columns → All IsCell (later columns)
later_cells columns fit =
    all_six (kind_text columns.kind) (decimal columns.session) (cell_text columns.a)
    (cell_text columns.b) (cell_text columns.c) (cell_text columns.d) (kind_cell columns.kind)
    (decimal_cell columns.session fit.session) (column_cell columns.a fit.a)
    (column_cell columns.b fit.b) (column_cell columns.c fit.c) (column_cell columns.d fit.d)

pub split_columns : (columns : Columns) → FitColumns columns
    → slice_split is_comma (join_with_byte 44 (column_cells columns)) ≡ column_cells columns
split_columns columns fit =
    split_cells (kind_text columns.kind) (later columns) (kind_cell columns.kind)
    (later_cells columns fit)

above_no_lf : (byte : ℕ) → 44 < byte → byte ≢ 10
above_no_lf byte h e = omega arith

cell_row : (cell : List ℕ) → IsCell cell → IsRow cell
cell_row cell h = All-weaker (λ byte. 44 < byte) (λ byte. byte ≢ 10) above_no_lf cell h

-- joined cells have no LF
joined_row : (x : List ℕ) (xs : List (List ℕ)) → IsCell x → All IsCell xs
    → IsRow (join_with_byte 44 (x ∷ xs))
joined_row x [] is all = cell_row x is
joined_row x (y ∷ ys) is all =
    All-append (λ byte. byte ≢ 10) x _ (cell_row x is)
    (All-cons (λ byte. byte ≢ 10) 44 _ (λ e. omega arith)
    (joined_row y ys (All-head IsCell y ys all) (All-tail IsCell y ys all)))

pub columns_row : (columns : Columns) → FitColumns columns
    → IsRow (join_with_byte 44 (column_cells columns))
columns_row columns fit =
    joined_row (kind_text columns.kind) (later columns) (kind_cell columns.kind)
    (later_cells columns fit)

-- a text is cut at its first LF in one way
pub one_cut : (row other rest more : List ℕ) → IsRow row → IsRow other
    → row ++ 10 ∷ rest ≡ other ++ 10 ∷ more → (row ≡ other) × (rest ≡ more)
one_cut [] [] rest more is too e = (refl, cc)
one_cut [] (y ∷ other) rest more is too e =
    absurd (All-head (λ byte. byte ≢ 10) y other too cc)
one_cut (x ∷ row) [] rest more is too e =
    absurd (All-head (λ byte. byte ≢ 10) x row is cc)
one_cut (x ∷ row) (y ∷ other) rest more is too e =
    let next = one_cut row other rest more (All-tail (λ byte. byte ≢ 10) x row is)
    (All-tail (λ byte. byte ≢ 10) y other too) cc in
    let first : x ≡ y = cc in
    let same : row ≡ other = next.0 in
    (cc, next.1)

-- no text without LF has one
pub no_lf_at : (row front rest : List ℕ) → IsRow row → row ≡ front ++ 10 ∷ rest → ⊥
no_lf_at [] [] rest is e = absurd cc
no_lf_at [] (y ∷ front) rest is e = absurd cc
no_lf_at (x ∷ row) [] rest is e = All-head (λ byte. byte ≢ 10) x row is cc
no_lf_at (x ∷ row) (y ∷ front) rest is e =
    no_lf_at row front rest (All-tail (λ byte. byte ≢ 10) x row is) cc
