-- Tasks over the passes of a new forest are ready.
use Rattle.std.proofs.Common.{◌≡◌, ℕ, List, [], ◌∷◌, map, ap}
use Rattle.std.specs.List.{AllByRecursion}
use Rattle.limit_table.specs.declared.limits.Limits.{Limits}
use Rattle.node_rule.specs.declared.view.Plan.{Plan}
use Rattle.node_rule.specs.Standing.{Forested}
use Rattle.f_array.specs.Passes.{PassValue, new_passes}
use Rattle.session_tasks.specs.Forests.{IsForestFor, IsFresh}
use Rattle.session_tasks.proofs.FreshPasses.{each_fresh}
use Rattle.cross_guard.specs.Told.{cross_trees}
use Rattle.cross_command.specs.declared.forest.CrossForest.{CrossForest}
use Rattle.cross_command.specs.Forest.{IsOpened, IsReady}

ready_each : {A : Type 0} (limits : Limits) (forest : Forested) (sessions : ℕ)
    (pass : A → PassValue)
    (tasks : List A) → IsForestFor (cross_trees limits) sessions limits.quota forest
    → AllByRecursion (λ t. IsFresh forest (pass t)) tasks
    → AllByRecursion (λ t. IsReady limits forest (pass t)) tasks
ready_each limits forest sessions pass [] own all = tt
ready_each limits forest sessions pass (task ∷ tasks) own all = (
  record {
    trees = ap (λ (p : Plan). p.trees) own.plan;
    quota = ap (λ (p : Plan). p.quota) own.plan;
    fresh = all.0;
  },
  ready_each limits forest sessions pass tasks own all.1,
)

pub all_ready : {A : Type 0} (limits : Limits) (forest : CrossForest) (pass : A → PassValue)
    (tasks : List A) (n : ℕ) → IsOpened limits n forest → map pass tasks ≡ new_passes forest.trees n
    → AllByRecursion (λ t. IsReady limits forest.trees (pass t)) tasks
all_ready limits forest pass tasks n opened are =
    ready_each limits forest.trees n pass tasks opened.trees
    (each_fresh forest.trees pass tasks n are)
