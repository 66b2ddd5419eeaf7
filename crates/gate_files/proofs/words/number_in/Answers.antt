use Rattle.std.proofs.Common.{arith}
use Rattle.gate_files.proofs.Numbers.{no_number, number_is, one_number}
use Rattle.gate_files.proofs.words.number_in.Goals as goal

pub returns-in_default-clause-number : goal.returns-in_default-clause-number
returns-in_default-clause-number c =
    no_number c.args.least c.args.most c.args.word.now (λ number is low high.
    c.in_default.ensures number (omega (arith, high)) is)

pub returns-then-number-least-clause-number : goal.returns-then-number-least-clause-number
returns-then-number-least-clause-number c =
    no_number c.args.least c.args.most c.args.word.now (λ number is low high.
    absurd (omega (
      arith,
      one_number number c.in-Some.number c.args.word.now (omega (arith, high)) (omega arith) is
          c.in-Some.ensures,
      low,
      c.if-number-least.true,
    )))

pub returns-then-number-most-clause-number : goal.returns-then-number-most-clause-number
returns-then-number-most-clause-number c =
    no_number c.args.least c.args.most c.args.word.now (λ number is low high.
    absurd (omega (
      arith,
      one_number number c.in-Some.number c.args.word.now (omega (arith, high)) (omega arith) is
          c.in-Some.ensures,
      high,
      c.if-number-most.true,
    )))

pub returns-clause-number : goal.returns-clause-number
returns-clause-number c =
    number_is c.args.least c.args.most c.in-Some.number c.args.word.now (omega arith)
    c.in-Some.ensures (omega (arith, c.if-number-least.false)) (omega (arith, c.if-number-most.false))
