-- Lines that are added one after another.
use Rattle.std.proofs.Common.{◌≡◌, ℕ, List, [], ◌∷◌, ◌++◌, sym, ap, ◌∙◌, append_assoc}
use Rattle.std.specs.Prelude.{Result, Ok, Err, OnOk}
use Rattle.std.specs.List.{flat_map}
use Rattle.std.proofs.lemmas.Grind.{flat_map-append}
use Rattle.std.proofs.lemmas.List.{append-nil}
use Rattle.fix_fields.specs.Fields.{FieldValue}
use Rattle.make_load.specs.Loads.{line_of}
use Rattle.make_load.specs.Pens.{AddsLines}

-- one line
pub one_line : (before now : List ℕ) (fields message : List FieldValue) → fields ≡ message
    → now ≡ before ++ line_of fields → AddsLines before now (message ∷ [])
one_line before now fields message is so = record {
  added = so ∙ ap (λ m. before ++ line_of m) is
      ∙ ap (λ t. before ++ t) (sym (append-nil (line_of message)));
}

-- and others behind it
pub more_lines : (before then now : List ℕ) (messages others : List (List FieldValue))
    → AddsLines before then messages → AddsLines then now others
    → AddsLines before now (messages ++ others)
more_lines before then now messages others first second = record {
  added = second.added ∙ ap (λ t. t ++ flat_map line_of others) first.added
      ∙ append_assoc before (flat_map line_of messages) (flat_map line_of others)
      ∙ ap (λ t. before ++ t) (sym (flat_map-append line_of messages others));
}

-- others behind them, where they were added
pub then_lines : {T E : Type 0} (result : Result T E) (before then now : List ℕ)
    (messages others : List (List FieldValue)) → AddsLines before then messages
    → OnOk result (AddsLines then now others)
    → OnOk result (AddsLines before now (messages ++ others))
then_lines (Ok value) before then now messages others first second =
    more_lines before then now messages others first second
then_lines (Err why) before then now messages others first second = tt
