-- A part is a field, and short.
use Rattle.std.proofs.Common.{◌≡◌, ℕ, ◌+◌, ◌≤◌, List, [], ◌++◌, length, sym, ap, ◌∙◌, subst}
use Rattle.std.specs.Prelude.{IfSome}
use Rattle.fix_fields.specs.Fields.{IsField, field, field_text}
use Rattle.make_load.proofs.Messages.{part_fits}
use Rattle.make_load.proofs.Spelling.{part_is_field}
use Rattle.make_load.proofs.orders.put_part.Goals as goal

-- the bytes are those of the value
spelled_so : (now added cleared own : List ℕ) → now ≡ added → added ≡ cleared ++ own
    → cleared ≡ [] → now ≡ own
spelled_so now added cleared own is added_is none =
    is ∙ added_is ∙ ap (λ t. t ++ own) none

pub put-requires-clause-field : goal.put-requires-clause-field
put-requires-clause-field c =
    let is = spelled_so _ _ _ _ c.as_slice.ensures.value c.in_ok-add_value.ensures
    c.clear.ensures.items in
    subst (λ (t : List ℕ). IsField (field c.args.part.0 t)) (sym is)
    (part_is_field c.args.part c.requires.part)

pub put-requires-clause-room : goal.put-requires-clause-room
put-requires-clause-room c =
    let is = spelled_so _ _ _ _ c.as_slice.ensures.value c.in_ok-add_value.ensures
    c.clear.ensures.items in
    subst (λ (t : List ℕ). IfSome c.args.writer.now
    (λ body. length body + length (field_text (field c.args.part.0 t)) ≤ 8400)) (sym is)
    (part_fits c.args.part c.args.writer.now c.requires.part c.requires.room)
