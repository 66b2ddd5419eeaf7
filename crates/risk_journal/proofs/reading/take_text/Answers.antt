use Rattle.std.proofs.Common.{sym, ◌∙◌, subst}
use Rattle.std.proofs.lemmas.Bool.{false≢true}
use Rattle.risk_journal.specs.Reading.{MayFollow}
use Rattle.risk_journal.specs.TakenView.{taken_of}
use Rattle.risk_journal.specs.declared.rows.Row.{Row}
use Rattle.risk_journal.proofs.RowColumns.{text_injective}
use Rattle.risk_journal.proofs.reading.take_text.Goals as goal

pub returns-then-not-may_follow-clause-refused : goal.returns-then-not-may_follow-clause-refused
returns-then-not-may_follow-clause-refused c = λ same row fits spelled follow.
    let own = c.in-Some.row in
    let is = text_injective row own fits c.in-Some.ensures.0 (spelled ∙ sym c.in-Some.ensures.1) in
    let P : Row → Type 0 = λ row. MayFollow (taken_of c.args.reading.now) row in
    let there = subst P is follow in
    false≢true (sym c.if-not-may_follow.true ∙ c.may_follow.ensures.1 there)
