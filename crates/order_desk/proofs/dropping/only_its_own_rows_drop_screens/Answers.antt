use Rattle.order_desk.proofs.Dropped.{other_rows, absent_rows}
use Rattle.order_desk.proofs.dropping.only_its_own_rows_drop_screens.Goals as goal

pub returns-clause-others : goal.returns-clause-others
returns-clause-others c = λ limits order screens. other_rows order limits.off screens

pub returns-clause-absent : goal.returns-clause-absent
returns-clause-absent c = λ limits order screens. absent_rows order limits.off screens
