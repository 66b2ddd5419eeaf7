use Rattle.std.proofs.Common.{◌++◌, ◌∷◌, [], sym, ap, ◌∙◌}
use Rattle.std.specs.List.{join_with_byte}
use Rattle.std.proofs.lemmas.List.{same_from_push}
use Rattle.risk_journal.specs.Rows.{columns_of, column_cells, columns_text}
use Rattle.risk_journal.proofs.RowColumns.{row_text_is, columns_fit, columns_injective}
use Rattle.risk_journal.proofs.row_reading.read_row.Goals as goal

pub returns-in_default : goal.returns-in_default
returns-in_default c = λ row fits e.
    c.in_default.ensures (columns_of row) (columns_fit row fits)
    (same_from_push (join_with_byte 44 (column_cells (columns_of row))) c.args.text.now 10 10
    (sym (row_text_is row) ∙ e)).0

pub returns-in_default-row_of : goal.returns-in_default-row_of
returns-in_default-row_of c = λ row fits e.
    let columns = c.in-Some.columns in
    c.in_default-row_of.ensures row fits
    (columns_injective (columns_of row) columns (columns_fit row fits) c.in-Some.ensures.0
    (sym (row_text_is row) ∙ e ∙ ap (λ own. own ++ 10 ∷ []) (sym c.in-Some.ensures.1)))

pub returns : goal.returns
returns c = (
  c.in-Some-row_of.ensures.0,
  row_text_is c.in-Some-row_of.row
      ∙ ap columns_text c.in-Some-row_of.ensures.1
      ∙ ap (λ own. own ++ 10 ∷ []) c.in-Some.ensures.1,
)
