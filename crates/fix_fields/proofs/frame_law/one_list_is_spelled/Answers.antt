use Rattle.fix_fields.proofs.FieldList.{one_list}
use Rattle.fix_fields.proofs.frame_law.one_list_is_spelled.Goals as goal

pub returns : goal.returns
returns c = one_list
