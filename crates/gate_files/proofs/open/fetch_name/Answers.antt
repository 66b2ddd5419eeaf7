-- What was fetched is all of the text, or its first bytes.
use Rattle.std.proofs.Common.{◌≡◌, ℕ, List, [], ◌++◌, length, sym, ap, ◌∙◌, inl, inr, Bool, true}
use Rattle.std.proofs.lemmas.List.{append-nil}
use Rattle.std.specs.Prelude.{Option, Some, None, IfSome, ◌⊎◌}
use Rattle.std.specs.Option.{is_some}
use Rattle.std.specs.Io.KnownBytes.{Consumes}
use Rattle.gate_ports.specs.Names.{Texts, IsOpened}
use Rattle.gate_files.specs.Stages.{HasFront}
use Rattle.gate_files.proofs.open.fetch_name.Goals as goal

-- by what is left behind it
front_read : (told : Option Texts) (name : List ℕ) (most : ℕ) (left after : Option (List ℕ))
    (bytes : List ℕ) (is_ended : Bool) → IsOpened told name left → Consumes left after bytes
    → (length bytes ≡ most) ⊎ ((is_ended ≡ true) × IfSome after (λ rest. rest ≡ []))
    → HasFront told name most bytes
front_read None name most left after bytes is_ended opened consumes whole = tt
front_read (Some texts) name most None after bytes is_ended opened consumes whole =
    let none : texts name ≡ None = sym opened.1 in
    let some : is_some (texts name) ≡ true = opened.0 in
    absurd cc
front_read (Some texts) name most (Some text) None bytes is_ended opened consumes whole =
    absurd consumes
front_read (Some texts) name most (Some text) (Some rest) bytes is_ended opened consumes whole = (
  text,
  sym opened.1,
  elim whole [
    | inl long ↦ inr (long, rest, consumes)
    | inr ended ↦ inl (consumes ∙ ap (λ (l : List ℕ). bytes ++ l) ended.1 ∙ append-nil bytes)
  ],
)

pub returns-in-Whole-clause-ok : goal.returns-in-Whole-clause-ok
returns-in-Whole-clause-ok g c =
    front_read _ c.args.name.now c.args.most _ _ _ _ c.in-Ok.ensures.found
    c.fetch_up_to-fetched.ensures.bytes
    (c.fetch_up_to-fetched.ensures.whole c.in-Whole.is)
