-- What the columns of a row are: they fit, they have the row's text, and each text has one row.
use Rattle.std.proofs.Common.{◌≡◌, ◌≢◌, ℕ, ◌+◌, ◌<◌, ◌^◌, List, [], ◌∷◌, length, refl, sym}
use Rattle.std.proofs.Common.{get_or, ◌*◌, ap, ◌∙◌, arith, codes, decimal, Option, Some, None}
use Rattle.std.specs.List.{join_with_byte, slice_split}
use Rattle.std.proofs.lemmas.Fmt.{decimal_injective, decimal_nonempty}
use Rattle.risk_journal.specs.JournalText.{end_number, end_place, row_text, act_text}
use Rattle.risk_journal.specs.RowCells.{cell_text, is_comma}
use Rattle.risk_journal.specs.Rows.{FitsEnd, FitsAct, FitsRow, FitsColumn, FitColumns, kind_text}
use Rattle.risk_journal.specs.Rows.{end_column, act_columns, columns_of, columns_text, text_of_row}
use Rattle.risk_journal.specs.Rows.{column_cells}
use Rattle.risk_journal.specs.declared.acts.Act.{Act}
use Rattle.risk_journal.specs.declared.acts.Act.TheVariants.{Post, Read, Sent, Refused, Noted}
use Rattle.risk_journal.specs.declared.acts.Act.TheVariants.{Ended}
use Rattle.risk_journal.specs.declared.acts.End.{End}
use Rattle.risk_journal.specs.declared.acts.End.TheVariants as ending
use Rattle.risk_journal.specs.declared.rows.Row.{Row}
use Rattle.risk_journal.specs.declared.rows.Row.TheVariants.{OfSession, OfTree}
use Rattle.risk_journal.specs.declared.rows.Kind.{Kind}
use Rattle.risk_journal.specs.declared.rows.Kind.TheVariants as kind
use Rattle.risk_journal.specs.declared.rows.Columns.{Columns}
use Rattle.risk_journal.proofs.RowBytes.{split_columns, columns_row, one_cut}

end_fits : (end : End) → FitsEnd end → (end_number end < 2 ^ 64) × FitsColumn (end_column end)
end_fits ending.Whole h = (omega arith, h)
end_fits (ending.Cut place) h = (omega arith, h)
end_fits (ending.Broken place) h = (omega arith, h)
end_fits (ending.TooLong place) h = (omega arith, h)
end_fits ending.ReadFault h = (omega arith, h)
end_fits ending.WriteFault h = (omega arith, h)
end_fits ending.Memory h = (omega arith, h)

act_fits : (session : ℕ) (act : Act) → session < 2 ^ 32 → FitsAct act
    → FitColumns (act_columns session act)
act_fits session (Post tree index value) small h = record {
  session = omega arith;
  a = omega arith;
  b = omega arith;
  c = h.2;
  d = tt;
}
act_fits session (Read tree stamp place value) small h = record {
  session = omega arith;
  a = omega arith;
  b = omega arith;
  c = omega arith;
  d = h.3;
}
act_fits session (Sent frame) small h = record {
  session = omega arith;
  a = omega arith;
  b = tt;
  c = tt;
  d = tt;
}
act_fits session (Refused frame code first second) small h = record {
  session = omega arith;
  a = omega arith;
  b = omega arith;
  c = omega arith;
  d = omega arith;
}
act_fits session (Noted frame code first second) small h = record {
  session = omega arith;
  a = omega arith;
  b = omega arith;
  c = omega arith;
  d = omega arith;
}
act_fits session (Ended end) small h =
    let fits = end_fits end h in
    record { session = omega arith; a = fits.0; b = fits.1; c = tt; d = tt }

-- the columns of a row that fits fit
pub columns_fit : (row : Row) → FitsRow row → FitColumns (columns_of row)
columns_fit (OfSession session act) h = act_fits session act h.0 h.1
columns_fit (OfTree tree place line) h = record {
  session = omega arith;
  a = omega arith;
  b = omega arith;
  c = omega arith;
  d = h.2.2;
}

end_text : (end : End) → end_place end ≡ cell_text (end_column end)
end_text ending.Whole = refl
end_text (ending.Cut place) = refl
end_text (ending.Broken place) = refl
end_text (ending.TooLong place) = refl
end_text ending.ReadFault = refl
end_text ending.WriteFault = refl
end_text ending.Memory = refl

act_text_is : (session : ℕ) (act : Act)
    → act_text session act ≡ columns_text (act_columns session act)
act_text_is session (Post tree index value) = refl
act_text_is session (Read tree stamp place value) = refl
act_text_is session (Sent frame) = refl
act_text_is session (Refused frame code first second) = refl
act_text_is session (Noted frame code first second) = refl
act_text_is session (Ended end) =
    ap (λ place. row_text (codes "ended" ∷ decimal session ∷ decimal (end_number end) ∷ place
    ∷ [] ∷ [] ∷ [])) (end_text end)

-- the text of a row is that of its columns
pub row_text_is : (row : Row) → text_of_row row ≡ columns_text (columns_of row)
row_text_is (OfSession session act) = act_text_is session act
row_text_is (OfTree tree place line) = refl

kind_injective : (a b : Kind) → kind_text a ≡ kind_text b → a ≡ b
kind_injective kind.Post kind.Post e = refl
kind_injective kind.Read kind.Read e = refl
kind_injective kind.Sent kind.Sent e = refl
kind_injective kind.Refused kind.Refused e = refl
kind_injective kind.Noted kind.Noted e = refl
kind_injective kind.Ended kind.Ended e = refl
kind_injective kind.Line kind.Line e = refl
kind_injective a b e =
    absurd (omega (arith, ap (λ (word : List ℕ). get_or word 0 0 * 256 + get_or word 2 0) e))

pub cell_injective : (a b : Option ℕ) → FitsColumn a → FitsColumn b → cell_text a ≡ cell_text b
    → a ≡ b
cell_injective None None fit too e = refl
cell_injective None (Some n) fit too e =
    absurd (omega (arith, decimal_nonempty n too, ap length e))
cell_injective (Some m) None fit too e =
    absurd (omega (arith, decimal_nonempty m fit, ap length e))
cell_injective (Some m) (Some n) fit too e = ap Some (decimal_injective m n fit too e)

same_columns : (k l : Kind) (m n : ℕ) (a b c d e f g h : Option ℕ)
    → k ≡ l → m ≡ n → a ≡ e → b ≡ f → c ≡ g → d ≡ h
    → (let left : Columns = record { kind = k; session = m; a = a; b = b; c = c; d = d } in left)
    ≡ record { kind = l; session = n; a = e; b = f; c = g; d = h }
same_columns k l m n a b c d e f g h p q r s t u = cc

-- columns with one text are the same
pub columns_injective : (columns others : Columns) → FitColumns columns → FitColumns others
    → columns_text columns ≡ columns_text others → columns ≡ others
columns_injective columns others fit too e =
    let cut = one_cut (join_with_byte 44 (column_cells columns))
    (join_with_byte 44 (column_cells others)) [] [] (columns_row columns fit)
    (columns_row others too) e in
    let cells : column_cells columns ≡ column_cells others =
    sym (split_columns columns fit) ∙ ap (slice_split is_comma) cut.0 ∙ split_columns others too in
    same_columns columns.kind others.kind columns.session others.session columns.a columns.b
    columns.c columns.d others.a others.b others.c others.d
    (kind_injective columns.kind others.kind cc)
    (decimal_injective columns.session others.session fit.session too.session cc)
    (cell_injective columns.a others.a fit.a too.a cc)
    (cell_injective columns.b others.b fit.b too.b cc)
    (cell_injective columns.c others.c fit.c too.c cc)
    (cell_injective columns.d others.d fit.d too.d cc)

end_injective : (a b : End) → end_number a ≡ end_number b → end_column a ≡ end_column b → a ≡ b
end_injective ending.Whole ending.Whole e f = refl
end_injective (ending.Cut a) (ending.Cut b) e f = cc
end_injective (ending.Broken a) (ending.Broken b) e f = cc
end_injective (ending.TooLong a) (ending.TooLong b) e f = cc
end_injective ending.ReadFault ending.ReadFault e f = refl
end_injective ending.WriteFault ending.WriteFault e f = refl
end_injective ending.Memory ending.Memory e f = refl
end_injective a b e f = absurd (omega arith)

-- the same columns, one by one
pub record SameColumns (x y : Columns) : Type 0 where
  pub kind : x.kind ≡ y.kind
  pub a : x.a ≡ y.a
  pub b : x.b ≡ y.b
  pub c : x.c ≡ y.c
  pub d : x.d ≡ y.d

by_column : (x y : Columns) → x ≡ y → SameColumns x y
by_column x y e = record {
  kind = ap (λ (own : Columns). own.kind) e;
  a = ap (λ (own : Columns). own.a) e;
  b = ap (λ (own : Columns). own.b) e;
  c = ap (λ (own : Columns). own.c) e;
  d = ap (λ (own : Columns). own.d) e;
}

same_act : (a b : Act) (m n : ℕ) → SameColumns (act_columns m a) (act_columns n b) → a ≡ b
same_act (Post a b c) (Post f g h) m n e = cc (e.a, e.b, e.c)
same_act (Read a b c d) (Read f g h i) m n e = cc (e.a, e.b, e.c, e.d)
same_act (Sent a) (Sent f) m n e = cc e.a
same_act (Refused a b c d) (Refused f g h i) m n e = cc (e.a, e.b, e.c, e.d)
same_act (Noted a b c d) (Noted f g h i) m n e = cc (e.a, e.b, e.c, e.d)
same_act (Ended a) (Ended b) m n e =
    ap Ended (end_injective a b (cc e.a) e.b)
same_act a b m n e = absurd (cc e.kind)

act_injective : (a b : Act) (m n : ℕ) → act_columns m a ≡ act_columns n b → a ≡ b
act_injective a b m n e = same_act a b m n (by_column (act_columns m a) (act_columns n b) e)

same_session : (act : Act) (session : ℕ) → (act_columns session act).session ≡ session
same_session (Post tree index value) session = refl
same_session (Read tree stamp place value) session = refl
same_session (Sent frame) session = refl
same_session (Refused frame code first second) session = refl
same_session (Noted frame code first second) session = refl
same_session (Ended end) session = refl

no_line : (act : Act) (session : ℕ) → (act_columns session act).kind ≢ kind.Line
no_line (Post tree index value) session e = absurd cc
no_line (Read tree stamp place value) session e = absurd cc
no_line (Sent frame) session e = absurd cc
no_line (Refused frame code first second) session e = absurd cc
no_line (Noted frame code first second) session e = absurd cc
no_line (Ended end) session e = absurd cc

-- rows with the same columns are the same
pub row_injective : (row other : Row) → columns_of row ≡ columns_of other → row ≡ other
row_injective (OfSession m a) (OfSession n b) e =
    let number : m ≡ n =
    sym (same_session a m) ∙ ap (λ (columns : Columns). columns.session) e ∙ same_session b n in
    let act : a ≡ b = act_injective a b m n e in
    cc
row_injective (OfSession m a) (OfTree tree place line) e =
    absurd (no_line a m (ap (λ (columns : Columns). columns.kind) e))
row_injective (OfTree tree place line) (OfSession n b) e =
    absurd (no_line b n (sym (ap (λ (columns : Columns). columns.kind) e)))
row_injective (OfTree tree place line) (OfTree other at more) e =
    let row : ℕ → ℕ → ℕ → ℕ → ℕ → Row = λ t p s i v.
    OfTree t p (record { session = s; index = i; value = v }) in
    let same = by_column (columns_of (OfTree tree place line))
    (columns_of (OfTree other at more)) e in
    let session : line.session ≡ more.session = ap (λ (columns : Columns). columns.session) e in
    let t : tree ≡ other = cc same.a in
    let p : place ≡ at = cc same.b in
    let i : line.index ≡ more.index = cc same.c in
    let v : line.value ≡ more.value = cc same.d in
    let all : row tree place line.session line.index line.value
    ≡ row other at more.session more.index more.value =
    ap (λ own. row own place line.session line.index line.value) t
    ∙ ap (λ own. row other own line.session line.index line.value) p
    ∙ ap (λ own. row other at own line.index line.value) session
    ∙ ap (λ own. row other at more.session own line.value) i
    ∙ ap (row other at more.session more.index) v in
    all

-- rows with the same text are the same
pub text_injective : (row other : Row) → FitsRow row → FitsRow other
    → text_of_row row ≡ text_of_row other → row ≡ other
text_injective row other fits too e =
    row_injective row other (columns_injective (columns_of row) (columns_of other)
    (columns_fit row fits) (columns_fit other too)
    (sym (row_text_is row) ∙ e ∙ row_text_is other))
