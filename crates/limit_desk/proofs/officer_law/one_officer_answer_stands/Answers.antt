-- A text has one list of rows.
use Rattle.limit_desk.proofs.OneAnswer.{one_answer}
use Rattle.limit_desk.proofs.officer_law.one_officer_answer_stands.Goals as goal

pub returns : goal.returns
returns c = λ limits bytes. one_answer limits bytes
