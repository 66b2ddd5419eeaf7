use Rattle.std.proofs.Common.{arith}
use Rattle.std.proofs.lemmas.Result.{err_from_is_err_and}
use Rattle.fix_fields.proofs.FrameParts.{tail_cut}
use Rattle.fix_fields.proofs.Rests.{broken_by_tail, no_frame_by_head}
use Rattle.fix_fields.proofs.cut.cut_frame.Goals as goal

-- no head stands there
pub returns-in_err-length_digits-clause-err : goal.returns-in_err-length_digits-clause-err
returns-in_err-length_digits-clause-err c =
    let passed = err_from_is_err_and c.from_residual.result c.from_residual.ensures.1 in
    rw (passed.1, passed.2) (no_frame_by_head c.args.rest.now c.in_err-length_digits.field-0.0
    c.in_err-length_digits.ensures.err)

-- neither the body nor CheckSum stands behind the head, though there are bytes enough
pub returns-in_default-cut_tail-clause-err : goal.returns-in_default-cut_tail-clause-err
returns-in_default-cut_tail-clause-err c =
    let rest = c.args.rest.now in
    let digits = c.in_ok-length_digits.length_digits.now in
    let after = c.in_ok-length_digits.after_head.now in
    let head = c.in_ok-length_digits.ensures.ok in
    let size = c.in-Some.ensures.some in
    broken_by_tail rest digits after record {
      head = head;
      few = omega (arith, size.value, size.most);
      enough = omega (arith, size.value, c.if-after_head-count.false);
    } (λ (d, b, s, m, h). c.in_default-cut_tail.ensures.none b s m
    (tail_cut rest d b s m digits after c.in-Some.count h head size))
