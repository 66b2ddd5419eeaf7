use Rattle.std.proofs.Common.{sym, ap, ◌∙◌, length, subst}
use Rattle.std.proofs.lemmas.List.{with_items_is}
use Rattle.std.specs.List.{AllByRecursion}
use Rattle.fork_all.specs.Slots.{IsDone}
use Rattle.fork_all.proofs.Zipped.{all_wait, all_done, all_given}
use Rattle.fork_all.proofs.map_all.Goals as goal

pub fill_all-requires-after_bounds : goal.fill_all-requires-after_bounds
fill_all-requires-after_bounds g c κs within =
    rw (c.deref_mut.ensures.value, c.waiting-slots.ensures)
    (all_wait _ _ c.args.items.items c.requires)

pub gathered-requires-clause-done : goal.gathered-requires-clause-done
gathered-requires-clause-done g c =
    let slots = c.waiting-slots.result in
    let same = c.fill_all.auto.slots ∙ ap length c.deref_mut.ensures.value in
    subst (AllByRecursion IsDone)
    (sym (with_items_is slots c.fill_all.new.slots (same ∙ sym slots.ok.0)))
    (all_done _ _ _ c.fill_all.ensures)

pub returns-clause-ok : goal.returns-clause-ok
returns-clause-ok g c =
    let slots = c.waiting-slots.result in
    let same = c.fill_all.auto.slots ∙ ap length c.deref_mut.ensures.value in
    let done = c.gathered.ensures
    ∙ with_items_is slots c.fill_all.new.slots (same ∙ sym slots.ok.0) in
    all_given _ c.args.items.items c.gathered.result.items _ _
    (c.deref_mut.ensures.value ∙ c.waiting-slots.ensures) done c.fill_all.ensures
