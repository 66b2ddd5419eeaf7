-- A screen's code is written in digits, so the text is short and has no SOH.
use Rattle.std.proofs.Common.{◌≡◌, ℕ, ◌++◌, ◌<◌, ◌^◌, arith, codes, decimal, length-append}
use Rattle.std.proofs.lemmas.Grind.{common_steps}
use Rattle.fix_fields.proofs.Decimals.{decimal_is_digits, decimal_is_length, digits_are_a_value}
use Rattle.fix_orders.specs.Put.{IsShort}
use Rattle.session_engine.proofs.codes.screen_text.Goals as goal

short_text : (code : ℕ) → code < 2 ^ 16 → IsShort (codes "SCREEN " ++ decimal code)
short_text code small =
    let digits = decimal_is_length code (omega arith) in
    record {
      without_soh = digits_are_a_value (decimal code) (decimal_is_digits code (omega arith));
      few = omega (arith, digits.no_more, length-append (codes "SCREEN ") (decimal code));
    }

pub returns-clause-short : goal.returns-clause-short
returns-clause-short c =
    let same : c.of.result ≡ codes "SCREEN " ++ decimal c.args.code = grind (arith, common_steps) in
    rw same (short_text c.args.code (omega arith))
