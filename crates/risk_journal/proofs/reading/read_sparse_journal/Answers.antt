use Rattle.std.proofs.Common.{◌≡◌, [], sym, ◌∙◌, subst, List, ℕ}
use Rattle.std.proofs.lemmas.Bool.{false≢true}
use Rattle.risk_journal.specs.JournalGrammar.{IsFirstFault}
use Rattle.risk_journal.specs.TakenView.{taken_of, Reached}
use Rattle.risk_journal.proofs.Reached.{fault_in_header, fault_at_end, whole_text}
use Rattle.risk_journal.proofs.ReadingSteps.{header_there, no_header}
use Rattle.risk_journal.proofs.reading.read_sparse_journal.Goals as goal

pub returns-in_default-clause-refused : goal.returns-in_default-clause-refused
returns-in_default-clause-refused c = λ row e.
    let number : 1 ≡ row = cc e in
    subst (IsFirstFault c.args.bytes.now) number
    (fault_in_header c.args.bytes.now
    (λ rest. no_header c.args.bytes.now rest c.in_default.ensures.cases))

pub returns-then-not-has_ended-clause-refused : goal.returns-then-not-has_ended-clause-refused
returns-then-not-has_ended-clause-refused c = λ row e.
    let number : c.in_ok-number.number ≡ row = cc e in
    let cases = c.in-Some.ensures.cases in
    let text = header_there c.args.bytes.now c.in-Some.rest.now cases.0 cases.1 in
    let P = λ (own : List ℕ).
    Reached own [] c.in_ok-number.number (taken_of c.read_rows.new.reading) in
    subst (IsFirstFault c.args.bytes.now) number
    (fault_at_end c.args.bytes.now c.in_ok-number.number (taken_of c.read_rows.new.reading)
    (subst P (sym text) c.in_ok-number.ensures.read)
    (λ none. false≢true (sym c.if-not-has_ended.true ∙ c.has_ended.ensures.1 none)))

pub returns-clause-read : goal.returns-clause-read
returns-clause-read c =
    let cases = c.in-Some.ensures.cases in
    let text = header_there c.args.bytes.now c.in-Some.rest.now cases.0 cases.1 in
    let P = λ (own : List ℕ).
    Reached own [] c.in_ok-number.number (taken_of c.read_rows.new.reading) in
    whole_text c.args.bytes.now c.in_ok-number.number (taken_of c.read_rows.new.reading)
    (subst P (sym text) c.in_ok-number.ensures.read)
    (c.has_ended.ensures.0 c.if-not-has_ended.false)
