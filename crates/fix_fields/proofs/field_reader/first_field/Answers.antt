use Rattle.fix_fields.proofs.FrontField.{no_soh_behind, soh_behind}
use Rattle.fix_fields.proofs.field_reader.first_field.Goals as goal

-- a field has a SOH behind its tag
pub returns-in_err-count-clause-none : goal.returns-in_err-count-clause-none
returns-in_err-count-clause-none c = rw c.from_residual-in_err-count.ensures
    (no_soh_behind c.args.text.now c.in_ok-tag.tag c.in_ok-tag.from c.in_ok-tag.ensures.some
    c.in_err-count.ensures)

pub returns-clause-some : goal.returns-clause-some
returns-clause-some c = soh_behind c.args.text.now c.in_ok-tag.tag c.in_ok-tag.from
    c.in_ok-count.count c.in_ok-tag.ensures.some c.in_ok-count.ensures
