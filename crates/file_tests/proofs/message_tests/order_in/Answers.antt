-- The order is what was read.
use Rattle.std.proofs.Common.{sym, ap, ◌∙◌}
use Rattle.std.specs.Prelude.{Ok}
use Rattle.file_tests.proofs.message_tests.order_in.Goals as goal

pub returns-in-Ok-New : goal.returns-in-Ok-New
returns-in-Ok-New c = record {
  listed = c.requires.0;
  stands = c.requires.1;
  read = sym (c.read_message.ensures c.requires.0 c.requires.1) ∙ c.in-Ok-New.is
      ∙ ap Ok c.in-Ok-New.field-0-is;
}
