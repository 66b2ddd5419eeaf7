-- One field more stands in the slot of its tag.
use Rattle.std.proofs.Common.{sym, ◌∙◌}
use Rattle.std.proofs.lemmas.List.{length-set}
use Rattle.fix_orders.proofs.SlotLemmas.{one_added, none_added}
use Rattle.fix_orders.proofs.slots.Slots.add.Goals as goal

pub returns-in-Some : goal.returns-in-Some
returns-in-Some c = λ listed has. record {
  size = length-set c.args.self.now.places c.in-Some.place c.with.result ∙ has.size;
  each = one_added c.args.self.now.places c.args.tag c.args.text.now listed has.each
      c.in-Some.place c.with.result has.size (sym c.in-Some.ensures) c.with.ensures;
}

pub returns-in_default : goal.returns-in_default
returns-in_default c = λ listed has. record {
  size = has.size;
  each = none_added c.args.self.now.places c.args.tag c.args.text.now listed has.each
      (sym c.place_of.ensures ∙ c.in_default.is);
}
