use Rattle.std.proofs.Common.{◌≡◌, []}
use Rattle.std.specs.List.{slice_split}
use Rattle.risk_journal.specs.RowCells.{is_comma}
use Rattle.risk_journal.proofs.RowCuts.{some_part}
use Rattle.risk_journal.proofs.row_cells.split_cells.Goals as goal

pub returns-in-Some : goal.returns-in-Some
returns-in-Some c = λ p q r s t u e.
    let rest = c.in-Some.field-0.1.now in
    let none : slice_split is_comma rest ≡ [] =
    cc (
      e,
      c.in_ok-kind.ensures,
      c.in_ok-session.ensures,
      c.in_ok-a.ensures,
      c.in_ok-b.ensures,
      c.in_ok-c.ensures,
      c.in-Some.ensures,
    ) in
    some_part rest none
