use Rattle.std.proofs.Common.{◌≤◌, arith, length, decimal}
use Rattle.std.proofs.lemmas.Fmt.{length-decimal-le}
use Rattle.risk_journal.proofs.csv_rows.write_cell.Goals as goal

-- a number has at most twenty digits
pub write_digits-requires : goal.write_digits-requires
write_digits-requires c =
    let short : length (decimal c.in-Some.number) ≤ 20 =
    length-decimal-le 20 c.in-Some.number (omega arith) (omega arith) (omega arith) in
    (omega (arith, short), omega arith)

pub returns-in-Some-clause-few : goal.returns-in-Some-clause-few
returns-in-Some-clause-few c =
    let short : length (decimal c.in-Some.number) ≤ 20 =
    length-decimal-le 20 c.in-Some.number (omega arith) (omega arith) (omega arith) in
    (omega (arith, c.write_digits.ensures.start), omega (arith, short, c.write_digits.ensures.start))
