use Rattle.std.proofs.Common.{ap, ◌∙◌}
use Rattle.std.specs.List.{prefix_len}
use Rattle.std.specs.Char.{is_ascii_digit}
use Rattle.fix_fields.proofs.Cuts.{prefix_of_take}
use Rattle.fix_fields.proofs.cut.digit_count.Goals as goal

pub returns : goal.returns
returns c = c.all_digit_count.ensures
    ∙ ap (prefix_len is_ascii_digit) c.split_at_most.ensures.front
    ∙ prefix_of_take c.args.most c.args.text.now
