use Rattle.risk_journal.proofs.RowCuts.{cut_none, cut_some}
use Rattle.risk_journal.proofs.row_cells.cut_cell.Goals as goal

pub returns-in_default : goal.returns-in_default
returns-in_default c = cut_none c.args.text.now c.in_default.ensures

pub returns : goal.returns
returns c =
    let found = c.in-Some.ensures in
    cut_some c.args.text.now c.in-Some.place found.0.high found.0.before found.1
