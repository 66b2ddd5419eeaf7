use Rattle.std.proofs.Common.{◌≡◌, ℕ, ◌+◌, ◌/◌, ◌%◌, ◌<◌, List, ◌∷◌, ◌++◌, ap, ◌∙◌, arith}
use Rattle.std.proofs.Common.{decimal}
use Rattle.std.proofs.lemmas.Fmt.{decimal_digit}
use Rattle.gate_files.specs.Words.{client_ending, session_mark, venue_ending}
use Rattle.gate_files.proofs.names.outputs_of.Goals as goal

-- a number below 100 in two digits
spelled : (out tail : List ℕ) (session : ℕ) → session < 100
    → out ++ (47 ∷ 115 ∷ (decimal (session / 10) ++ (decimal (session % 10) ++ tail)))
    ≡ out ++ (session_mark session ++ tail)
spelled out tail session below =
    ap (λ (d : List ℕ). out ++ (47 ∷ 115 ∷ (d ++ (decimal (session % 10) ++ tail))))
    (decimal_digit (session / 10) (omega arith))
    ∙ ap (λ (d : List ℕ). out ++ (47 ∷ 115 ∷ (48 + session / 10) ∷ (d ++ tail)))
    (decimal_digit (session % 10) (omega arith))

pub returns : goal.returns
returns c = record {
  venue = c.in-Ok.ensures.ok
      ∙ ap (λ (e : List ℕ). c.args.out.name.now ++ (47 ∷ 115
      ∷ (decimal (c.args.session / 10) ++ (decimal (c.args.session % 10) ++ e))))
      c.venue_ending-ending.ensures
      ∙ spelled c.args.out.name.now (venue_ending c.args.out.files) c.args.session c.requires;
  client = c.in-Ok-format.ensures.ok
      ∙ spelled c.args.out.name.now client_ending c.args.session c.requires;
}
