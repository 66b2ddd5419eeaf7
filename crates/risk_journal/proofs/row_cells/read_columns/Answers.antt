use Rattle.std.proofs.Common.{sym, ap, ◌∙◌}
use Rattle.std.specs.List.{slice_split}
use Rattle.risk_journal.specs.RowCells.{is_comma}
use Rattle.risk_journal.proofs.RowCuts.{same_cells, spelled_so}
use Rattle.risk_journal.proofs.RowBytes.{split_columns}
use Rattle.risk_journal.proofs.row_cells.read_columns.Goals as goal

pub returns-in_default : goal.returns-in_default
returns-in_default c = λ columns fit e.
    c.in_default.ensures _ _ _ _ _ _ (sym (ap (slice_split is_comma) e) ∙ split_columns columns fit)

pub returns-in_default-kind_named : goal.returns-in_default-kind_named
returns-in_default-kind_named c = λ columns fit e.
    let same = same_cells c.args.row.now columns _ _ _ _ _ _ c.in-Some.ensures fit e in
    c.in_default-kind_named.ensures columns.kind same.kind

pub returns-in_default-read_number : goal.returns-in_default-read_number
returns-in_default-read_number c = λ columns fit e.
    let same = same_cells c.args.row.now columns _ _ _ _ _ _ c.in-Some.ensures fit e in
    c.in_default-read_number.ensures columns.session fit.session same.session

pub returns-in_default-read_column : goal.returns-in_default-read_column
returns-in_default-read_column c = λ columns fit e.
    let same = same_cells c.args.row.now columns _ _ _ _ _ _ c.in-Some.ensures fit e in
    c.in_default-read_column.ensures columns.a fit.a same.a

pub returns-in_default-read_column-2 : goal.returns-in_default-read_column-2
returns-in_default-read_column-2 c = λ columns fit e.
    let same = same_cells c.args.row.now columns _ _ _ _ _ _ c.in-Some.ensures fit e in
    c.in_default-read_column-2.ensures columns.b fit.b same.b

pub returns-in_default-read_column-3 : goal.returns-in_default-read_column-3
returns-in_default-read_column-3 c = λ columns fit e.
    let same = same_cells c.args.row.now columns _ _ _ _ _ _ c.in-Some.ensures fit e in
    c.in_default-read_column-3.ensures columns.c fit.c same.c

pub returns-in_default-read_column-4 : goal.returns-in_default-read_column-4
returns-in_default-read_column-4 c = λ columns fit e.
    let same = same_cells c.args.row.now columns _ _ _ _ _ _ c.in-Some.ensures fit e in
    c.in_default-read_column-4.ensures columns.d fit.d same.d

pub returns : goal.returns
returns c = (
  record {
    session = c.in-Some-read_number.ensures.0;
    a = c.in-Some-read_column.ensures.0;
    b = c.in-Some-read_column-2.ensures.0;
    c = c.in-Some-read_column-3.ensures.0;
    d = c.in-Some-read_column-4.ensures.0;
  },
  spelled_so c.args.row.now _ _ _ _ _ _ _ c.in-Some.ensures (record {
    kind = c.in-Some-kind_named.ensures;
    session = c.in-Some-read_number.ensures.1;
    a = c.in-Some-read_column.ensures.1;
    b = c.in-Some-read_column-2.ensures.1;
    c = c.in-Some-read_column-3.ensures.1;
    d = c.in-Some-read_column-4.ensures.1;
  }),
)
