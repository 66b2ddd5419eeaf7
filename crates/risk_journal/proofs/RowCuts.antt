-- A row cut at its commas, and its columns.
use Rattle.std.proofs.Common.{◌≡◌, ◌≢◌, ℕ, ◌+◌, ◌-◌, ◌<◌, ◌≤◌, List, [], ◌∷◌, ◌++◌, length, refl}
use Rattle.std.proofs.Common.{sym, ap, ◌∙◌, arith, true, false, eqb, take, drop, get_or, decimal}
use Rattle.std.proofs.Common.{subst, Bool, length-take, length-drop}
use Rattle.std.specs.List.{All, slice_split, join_with_byte}
use Rattle.std.proofs.lemmas.List.{drop_more, take-append-drop, get_or-take, take_all}
use Rattle.std.proofs.lemmas.List.{get_or_default}
use Rattle.std.proofs.lemmas.List.Splits.{slice_split_at, slice_split_none, length-slice_split}
use Rattle.std.proofs.lemmas.List.Splits.{join_with_byte-slice_split}
use Rattle.memchr.specs.Find.{Nowhere, Passes, is_byte}
use Rattle.risk_journal.specs.RowCells.{cell_text, is_comma}
use Rattle.risk_journal.specs.Rows.{kind_text, FitColumns, column_cells}
use Rattle.risk_journal.specs.declared.rows.Columns.{Columns}
use Rattle.risk_journal.proofs.RowBytes.{split_columns}

untrue : (test : Bool) → (test ≡ true → ⊥) → test ≡ false
untrue true h = absurd (h refl)
untrue false h = refl

-- no byte of the text is this one, up to a place
pub none_before : (byte : ℕ) (text : List ℕ) (place : ℕ) → place ≤ length text
    → Nowhere (Passes (is_byte byte) text) 0 place
    → All (λ own. (eqb own byte) ≡ false) (take place text)
none_before byte text place within none k d h =
    let below : k < place = omega (arith, length-take place text) in
    let there : get_or (take place text) k d ≡ get_or text k 0 =
    get_or-take place text k d below ∙ get_or_default text k d 0 (omega arith) in
    untrue (eqb (get_or (take place text) k d) byte)
    (λ e. none k (omega arith) below (ap (λ own. eqb own byte) (sym there) ∙ e))

pub cut_there : (text : List ℕ) (place : ℕ) → place < length text
    → text ≡ take place text ++ get_or text place 0 ∷ drop (place + 1) text
cut_there text place within =
    sym (take-append-drop place text)
    ∙ ap (λ own. take place text ++ own) (drop_more text place 0 within)

pub cut_none : (text : List ℕ) → Nowhere (Passes (is_byte 44) text) 0 (length text)
    → slice_split is_comma text ≡ text ∷ []
cut_none text none =
    let all : take (length text) text ≡ text = take_all (length text) text (omega arith) in
    let P : List ℕ → Type 0 = λ own. All (λ byte. is_comma byte ≡ false) own in
    slice_split_none is_comma text
    (subst P all (none_before 44 text (length text) (omega arith) none))

pub cut_some : (text : List ℕ) (place : ℕ) → place < length text
    → Nowhere (Passes (is_byte 44) text) 0 place → Passes (is_byte 44) text place
    → slice_split is_comma text
    ≡ take place text
    ∷ slice_split is_comma (take (length text - (place + 1)) (drop (place + 1) text))
cut_some text place within none passes =
    let rest = drop (place + 1) text in
    let all : take (length text - (place + 1)) rest ≡ rest =
    take_all (length text - (place + 1)) rest (omega (arith, length-drop (place + 1) text)) in
    ap (slice_split is_comma) (cut_there text place within)
    ∙ slice_split_at is_comma (take place text) (get_or text place 0) rest
    (none_before 44 text place (omega arith) none) passes
    ∙ ap (λ own. take place text ∷ slice_split is_comma own) (sym all)

-- a list is split into one part at least
pub some_part : (text : List ℕ) → slice_split is_comma text ≢ []
some_part text e = omega (arith, length-slice_split is_comma text, ap length e)

-- the cells of columns, one by one
pub record SameCells (columns : Columns) (p q r s t u : List ℕ) : Type 0 where
  pub kind : kind_text columns.kind ≡ p
  pub session : decimal columns.session ≡ q
  pub a : cell_text columns.a ≡ r
  pub b : cell_text columns.b ≡ s
  pub c : cell_text columns.c ≡ t
  pub d : cell_text columns.d ≡ u

pub same_cells : (row : List ℕ) (columns : Columns) (p q r s t u : List ℕ)
    → slice_split is_comma row ≡ p ∷ q ∷ r ∷ s ∷ t ∷ u ∷ [] → FitColumns columns
    → join_with_byte 44 (column_cells columns) ≡ row → SameCells columns p q r s t u
same_cells row columns p q r s t u split fit e =
    let cells : column_cells columns ≡ p ∷ q ∷ r ∷ s ∷ t ∷ u ∷ [] =
    sym (split_columns columns fit) ∙ ap (slice_split is_comma) e ∙ split in
    record { kind = cc; session = cc; a = cc; b = cc; c = cc; d = cc }

-- columns with these cells have the row's text
pub spelled_so : (row : List ℕ) (columns : Columns) (p q r s t u : List ℕ)
    → slice_split is_comma row ≡ p ∷ q ∷ r ∷ s ∷ t ∷ u ∷ [] → SameCells columns p q r s t u
    → join_with_byte 44 (column_cells columns) ≡ row
spelled_so row columns p q r s t u split same =
    let cells : column_cells columns ≡ slice_split is_comma row =
    cc (same.kind, same.session, same.a, same.b, same.c, same.d, split) in
    ap (join_with_byte 44) cells ∙ join_with_byte-slice_split 44 row
