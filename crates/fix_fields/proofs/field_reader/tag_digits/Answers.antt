use Rattle.std.proofs.Common.{◌≡◌, ◌≤◌, ◌+◌, ◌-◌, ◌*◌, arith, sym, ◌∙◌, ap, true, false, get_or}
use Rattle.std.specs.Char.{is_ascii_digit}
use Rattle.std.proofs.lemmas.List.Sums.{prefix_len-le-length}
use Rattle.fix_fields.proofs.TagDigits.{one_more, no_more, tag_more, tag_small}
use Rattle.fix_fields.proofs.field_reader.tag_digits.Goals as goal

-- a number of five digits, and one digit more
pub overflow_mul-tag : goal.overflow_mul-tag
overflow_mul-tag c = let l = c.loop-count.invariant in
    let small = tag_small c.args.text.now c.loop-count.count l.digits (omega arith) in
    omega (arith, small, l.value)

pub overflow_add-tag : goal.overflow_add-tag
overflow_add-tag c = let l = c.loop-count.invariant in
    let small = tag_small c.args.text.now c.loop-count.count l.digits (omega arith) in
    let digit : c.from.result ≤ 9 = grind arith in
    omega (arith, small, l.value, digit)

pub loop-count-preserved : goal.loop-count-preserved
loop-count-preserved c =
    let l = c.loop-count.invariant in
    let text = c.args.text.now in
    let n = c.loop-count.count in
    let yes : is_ascii_digit (get_or text n 0) ≡ true = grind arith in
    let more = tag_more text n (omega arith) yes in
    record {
      few = omega arith;
      inside = omega arith;
      digits = one_more text n l.digits (omega arith) yes;
      value = sym (more ∙ ap (λ v. v * 10 + (get_or text n 0 - 48)) (sym l.value)
          ∙ ap (λ d. c.loop-count.tag * 10 + d) (sym c.from.ensures));
    }

-- the digits end at another byte
pub returns-else-is_ascii_digit-clause-count : goal.returns-else-is_ascii_digit-clause-count
returns-else-is_ascii_digit-clause-count c =
    let l = c.loop-count.invariant in
    let text = c.args.text.now in
    let n = c.loop-count.count in
    let no : is_ascii_digit (get_or text n 0) ≡ false = grind arith in
    omega (arith, no_more text n l.digits no, l.few)

-- the digits end with the text
pub returns-else-count-text-clause-count : goal.returns-else-count-text-clause-count
returns-else-count-text-clause-count c =
    let l = c.loop-count.invariant in
    omega (arith, l.digits, l.few, prefix_len-le-length is_ascii_digit c.args.text.now, c.if-count-text.false)
