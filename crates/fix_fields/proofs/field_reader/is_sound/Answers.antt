use Rattle.std.proofs.Common.{◌≡◌, true, refl, None}
use Rattle.fix_fields.proofs.FieldLists.{sound_if, no_sum, no_kind}
use Rattle.fix_fields.proofs.field_reader.is_sound.Goals as goal

-- the sum is wrong
pub returns-then-not-is_checksum_of : goal.returns-then-not-is_checksum_of
returns-then-not-is_checksum_of c = (
  None,
  no_sum c.args.before.now c.args.sum_digits.now c.args.body.now
      (λ e. let yes : c.is_checksum_of.result ≡ true = c.is_checksum_of.ensures.1 e in cc),
  refl,
)

-- the body doesn't begin with MsgType (35) and a value
pub returns-then-not-begins_with_kind : goal.returns-then-not-begins_with_kind
returns-then-not-begins_with_kind c = (
  None,
  no_kind c.args.before.now c.args.sum_digits.now c.args.body.now
      (λ k. let yes : c.begins_with_kind.result ≡ true = c.begins_with_kind.ensures.1 k in cc),
  refl,
)

pub returns : goal.returns
returns c = sound_if c.args.before.now c.args.sum_digits.now c.args.body.now c.is_field_list.result
    c.is_field_list.ensures (c.is_checksum_of.ensures.0 c.if-not-is_checksum_of.false)
    (c.begins_with_kind.ensures.0 c.if-not-begins_with_kind.false)
