use Rattle.std.proofs.Common.{refl, ap, sym, subst, arith}
use Rattle.node_rule.specs.declared.view.Plan.{Plan}
use Rattle.std.specs.Prelude.{slice_index_or}
use Rattle.f_array.specs.Passes.{PassValue, IsPassOf, IsSamePass}
use Rattle.f_array.proofs.TakingBack.{all_are_of}
use Rattle.f_array.proofs.NewPasses.{same_passes_are_all}
use Rattle.tree_tests.proofs.replay_tests.run_all.Goals as goal

pub map_vec-requires-after_bounds : goal.map_vec-requires-after_bounds
map_vec-requires-after_bounds g c κs within i x short is =
    let forest = c.args.forest.now in
    let here : IsPassOf forest x =
    subst (IsPassOf forest) (sym is)
    (all_are_of forest forest c.args.passes.items refl c.requires.all i x short) in
    let trees = ap (λ (p : Plan). p.trees) here.1 in
    let wide = c.requires.trees in
    (here, omega arith)

pub returns-in-Ok : goal.returns-in-Ok
returns-in-Ok g c =
    same_passes_are_all c.args.forest.now c.args.passes.items c.in-Ok.after.items
    (let long = c.in-Ok.ensures.len in
    let a = c.in-Ok.after.ok in
    let b = c.args.passes.ok in
    omega arith)
    (λ k other short.
    let gives = (c.in-Ok.ensures.each k other short).1 in
    let met = gives.call.met in
    let is = gives.job_is other in
    subst (λ (p : PassValue). IsSamePass p (slice_index_or c.in-Ok.after.items k other)) (sym is)
    (assumption (met)))
    c.requires.all
