use Rattle.fix_fields.proofs.FrameParts.{trailer_cut}
use Rattle.fix_fields.proofs.cut.cut_tail.Goals as goal

-- no CheckSum stands behind the body
pub returns-in_err-sum_digits-clause-none : goal.returns-in_err-sum_digits-clause-none
returns-in_err-sum_digits-clause-none c = rw c.from_residual-in_err-sum_digits.ensures
    (λ b s more tail. c.in_err-sum_digits.ensures.none s more
    (trailer_cut c.args.text.now c.args.count c.in_ok-body.body.now c.in_ok-body.after_body.now
    b s more c.in_ok-body.ensures.some tail))
