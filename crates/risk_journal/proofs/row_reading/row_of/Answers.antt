use Rattle.std.proofs.Common.{◌≡◌, sym, ap, ◌∙◌, subst, true}
use Rattle.std.proofs.lemmas.Bool.{false≢true}
use Rattle.risk_journal.specs.Rows.{FitsRow, columns_of}
use Rattle.risk_journal.specs.RowWith.{row_with, are_same}
use Rattle.risk_journal.proofs.RowsWith.{row_with_fits, has_columns, found_by_columns}
use Rattle.risk_journal.proofs.row_reading.row_of.Goals as goal

pub returns-then-do_agree : goal.returns-then-do_agree
returns-then-do_agree c =
    let is = c.row_for-row.ensures in
    let columns = c.args.columns.now in
    let tested : are_same (columns_of (row_with columns)) columns ≡ true =
    ap (λ row. are_same (columns_of row) columns) (sym is)
    ∙ ap (λ own. are_same own columns) (sym c.columns_for-own.ensures)
    ∙ sym c.do_agree.ensures ∙ c.if-do_agree.true in (
      subst FitsRow (sym is) (row_with_fits columns c.requires),
      ap columns_of is ∙ has_columns columns tested,
    )

pub returns-else-do_agree : goal.returns-else-do_agree
returns-else-do_agree c = λ row fits e.
    let is = c.row_for-row.ensures in
    let columns = c.args.columns.now in
    let tested : are_same c.columns_for-own.result columns ≡ true =
    ap (λ own. are_same own columns) (c.columns_for-own.ensures ∙ ap columns_of is)
    ∙ found_by_columns columns row fits e in
    false≢true (sym c.if-do_agree.false ∙ c.do_agree.ensures ∙ tested)
