use Rattle.std.proofs.Common.{◌≡◌, ◌∙◌, sym, ap, decimal, true, subst}
use Rattle.std.proofs.lemmas.Fmt.{parse-decimal, IsAscii-decimal}
use Rattle.std.proofs.lemmas.Str.{IsUtf8-from_ascii}
use Rattle.std.proofs.lemmas.Slice.Eq.{bytes_eq-Decides}
use Rattle.std.specs.Str.{IsAscii, bytes_eq}
use Rattle.std.proofs.lemmas.Bool.{false≢true}
use Rattle.risk_journal.proofs.row_cells.read_number.Goals as goal

pub returns-in_default : goal.returns-in_default
returns-in_default c = λ number fits e.
    c.in_default.ensures.cases.0
    (IsUtf8-from_ascii c.args.text.now (subst IsAscii e (IsAscii-decimal number fits)))

pub returns-in_default-parse : goal.returns-in_default-parse
returns-in_default-parse c = λ number fits e.
    let text = c.in-Ok.ensures.cases.0 in
    c.in_default-parse.not-Ok number
    (parse-decimal 64 number c.in-Ok.digits.now _ fits fits (text ∙ sym e) c.parse.ensures.value.0)

pub returns-else-eq : goal.returns-else-eq
returns-else-eq c = λ number fits e.
    let text = c.in-Ok.ensures.cases.0 in
    let parsed = parse-decimal 64 number c.in-Ok.digits.now _ fits fits (text ∙ sym e)
    c.parse.ensures.value.0 in
    let same : c.in-Ok-parse.number ≡ number = cc (parsed, c.in-Ok-parse.is) in
    let bytes : c.as_bytes.result.now ≡ c.args.text.now =
    c.as_bytes.ensures.value ∙ c.format.ensures.text ∙ ap decimal same ∙ e in
    let yes : bytes_eq c.as_bytes.result.now c.args.text.now ≡ true =
    (bytes_eq-Decides c.as_bytes.result.now c.args.text.now).1 bytes in
    false≢true (sym c.if-eq.false ∙ c.eq.ensures ∙ yes)
