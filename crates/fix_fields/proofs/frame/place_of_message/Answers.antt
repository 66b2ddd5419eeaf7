use Rattle.std.proofs.Common.{◌≤◌, ◌+◌, ap, ◌∙◌, arith, length, length-drop, subst}
use Rattle.std.specs.List.{prefix_len}
use Rattle.fix_fields.specs.Frames.{is_line_end}
use Rattle.fix_fields.proofs.FrontField.{rest_is}
use Rattle.fix_fields.proofs.frame.place_of_message.Goals as goal

pub returns-clause-within : goal.returns-clause-within
returns-clause-within c =
    let count = c.line_end_count.result in
    let inside = subst (λ t. count ≤ length t)
    (rest_is c.args.bytes.now c.args.from) c.line_end_count.ensures.within in
    omega (arith, length-drop c.args.from c.args.bytes.now)

pub overflow_add-result : goal.overflow_add-result
overflow_add-result c =
    let count = c.line_end_count.result in
    let inside = subst (λ t. count ≤ length t)
    (rest_is c.args.bytes.now c.args.from) c.line_end_count.ensures.within in
    omega (arith, length-drop c.args.from c.args.bytes.now)

pub returns-clause-place : goal.returns-clause-place
returns-clause-place c = ap (λ n. c.args.from + n) (c.line_end_count.ensures.counted
    ∙ ap (prefix_len is_line_end) (rest_is c.args.bytes.now c.args.from))
