use Rattle.std.proofs.Common.{[], ◌∷◌, ◌++◌, ap, ◌∙◌}
use Rattle.std.specs.Vec.Iter.{into_iter_items}
use Rattle.f_array.proofs.TakingBack.{has_one_more_back, did_is_of_pass, did_one_more, taken_and_left}
use Rattle.f_array.proofs.closing_forest.take_back.Goals as goal

pub loop-pass-preserved : goal.loop-pass-preserved
loop-pass-preserved g c =
    let takes = c.join-calls.ensures.keeper in
    let same = takes.2 in
    let was = c.loop-pass.invariant in
    let taken = was.4.0 in
    let pass = c.in-Some.pass in
    let climb = c.pass.inside.climb in (
      tt,
      tt,
      (ap (λ k. k.table) same ∙ was.2.0, ap (λ k. k.plan) same ∙ was.2.1),
      ap (λ k. k.plan) same ∙ was.3,
      (
        taken ++ pass ∷ [],
        taken_and_left taken (into_iter_items c.loop-pass.pass-iterator)
            (into_iter_items c.next.new.self) c.args.passes.items pass was.4.1
            c.in-Some.ensures.steps.0,
        has_one_more_back c.args.keeper.now.plan.sessions taken pass climb c.loop-pass.keeper
            c.join-calls.new.keeper c.pass.view_is was.4.2 takes,
        did_one_more taken pass c.loop-pass.did.items c.push.new.self.items _ was.4.3
            c.in-Ok.ensures.items
            (did_is_of_pass climb pass c.join-calls.result.0.items c.join-calls.result.1.items
            c.pass.view_is c.join-calls.ensures.lists),
      ),
    )
