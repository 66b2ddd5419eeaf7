use Rattle.std.proofs.Common.{◌≡◌, ◌++◌, sym, ap, subst, arith, Ok, drop, refl, length}
use Rattle.std.proofs.Common.{length-take, length-drop, ◌-◌}
use Rattle.risk_journal.specs.JournalText.{header_text}
use Rattle.risk_journal.specs.JournalGrammar.{IsFirstFault}
use Rattle.risk_journal.specs.TakenView.{taken_of, Reached}
use Rattle.risk_journal.proofs.Reached.{reached_header}
use Rattle.risk_journal.proofs.ReadingSteps.{open_fault, row_fault, row_taken}
use Rattle.risk_journal.proofs.reading.read_rows.Goals as goal

pub loop-at-init : goal.loop-at-init
loop-at-init c =
    let rest = c.args.rest.now in
    record {
      reached = subst (Reached (header_text ++ rest) rest 2) (sym c.requires.none)
          (reached_header (header_text ++ rest) rest refl);
      within = omega arith;
      few = omega arith;
      rising = c.requires.rising;
    }

pub returns-in_default-clause-refused : goal.returns-in_default-clause-refused
returns-in_default-clause-refused c = λ row e.
    let rest = c.args.rest.now in
    let number : c.loop-at.number ≡ row = cc e in
    subst (IsFirstFault (header_text ++ rest)) number
    (open_fault (header_text ++ rest) rest c.loop-at.at c.loop-at.number
    (taken_of c.loop-at.reading) c.loop-at.invariant.reached (omega arith) c.in_default.ensures)

pub returns-in-Ok-false-clause-refused : goal.returns-in-Ok-false-clause-refused
returns-in-Ok-false-clause-refused c = λ row e.
    let rest = c.args.rest.now in
    let number : c.loop-at.number ≡ row = cc e in
    let found = c.in-Some.ensures in
    subst (IsFirstFault (header_text ++ rest)) number
    (row_fault (header_text ++ rest) rest c.loop-at.at c.in-Some.end c.loop-at.number
    (taken_of c.loop-at.reading) c.loop-at.invariant.reached found.0 found.1
    (c.in-Ok-false.ensures.refused (ap Ok c.in-Ok-false.field-0-test)))

pub loop-at-preserved : goal.loop-at-preserved
loop-at-preserved c =
    let rest = c.args.rest.now in
    let found = c.in-Some.ensures in
    record {
      reached = row_taken (header_text ++ rest) rest c.loop-at.at c.in-Some.end c.loop-at.number
          (taken_of c.loop-at.reading) (taken_of c.take_text.new.reading)
          c.loop-at.invariant.reached found.0 found.1
          (c.in-Ok-true.ensures.taken (ap Ok c.in-Ok-true.field-0-test));
      within = omega (
        arith,
        found.0.high,
        length-take (length rest - c.loop-at.at)
            (drop c.loop-at.at rest),
        length-drop c.loop-at.at rest,
      );
      few = omega arith;
      rising = c.in-Ok-true.ensures.rising (ap Ok c.in-Ok-true.field-0-test);
    }
