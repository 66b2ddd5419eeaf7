use Rattle.std.proofs.Common.{◌≡◌, ◌∙◌, sym, ap, decimal, true, arith}
use Rattle.std.proofs.lemmas.Bool.{false≢true}
use Rattle.std.proofs.lemmas.Fmt.{parse-decimal}
use Rattle.std.proofs.lemmas.Slice.Eq.{bytes_eq-Decides}
use Rattle.std.specs.Str.{bytes_eq}
use Rattle.gate_files.proofs.words.number_of.Goals as goal

pub returns-in_default : goal.returns-in_default
returns-in_default c = λ number fits e.
    c.in_default.not-Ok number
    (parse-decimal 32 number c.args.word.now _ fits (omega (arith, fits)) (sym e)
    c.parse.ensures.value.0)

pub returns-else-eq : goal.returns-else-eq
returns-else-eq c = λ number fits e.
    let parsed = parse-decimal 32 number c.args.word.now _ fits (omega (arith, fits)) (sym e)
    c.parse.ensures.value.0 in
    let same : c.in-Ok.number ≡ number = cc (parsed, c.in-Ok.is) in
    let bytes : c.as_bytes.result.now ≡ c.as_bytes-2.result.now =
    c.as_bytes.ensures.value ∙ c.format.ensures.text ∙ ap decimal same ∙ e
    ∙ sym c.as_bytes-2.ensures.value in
    let yes : bytes_eq c.as_bytes.result.now c.as_bytes-2.result.now ≡ true =
    (bytes_eq-Decides c.as_bytes.result.now c.as_bytes-2.result.now).1 bytes in
    false≢true (sym c.if-eq.false ∙ c.eq.ensures ∙ yes)
