-- The forest of a filter: what its sessions need of it, what they leave, and what a close gives.
use Rattle.std.specs.Prelude.{◌≡◌, ℕ, ◌≤◌, List, length, map}
use Rattle.limit_table.specs.declared.limits.Limits.{Limits}
use Rattle.risk_journal.specs.declared.acts.Act.{Act}
use Rattle.risk_journal.specs.ActLists.{calls_of}
use Rattle.stamp_word.specs.Places.{IsLeast}
use Rattle.node_rule.specs.declared.view.Plan.{Plan}
use Rattle.node_rule.specs.Standing.{Forested}
use Rattle.f_array.specs.Passes.{PassValue, IsSamePass}
use Rattle.f_array.specs.Records.{AreAllOf, did_of}
use Rattle.f_array.specs.declared.record.Record.{Record}
use Rattle.trail_replay.specs.Fronts.{IsLawful}
use Rattle.session_tasks.specs.Forests.{IsForestFor, IsFresh}
use Rattle.cross_guard.specs.Halves.{cross_cap, cross_join}
use Rattle.cross_guard.specs.Told.{cross_trees}
use Rattle.cross_command.specs.declared.forest.CrossForest.{CrossForest}

-- the forest of these limits for so many sessions, with its keeper
pub record IsOpened (limits : Limits) (sessions : ℕ) (forest : CrossForest) : Type 0 where
  pub trees : IsForestFor (cross_trees limits) sessions limits.quota forest.trees
  pub keeper : forest.keeper ≡ forest.trees

-- the forest is one of the limits, and this pass is of it and made no call
pub record IsReady (limits : Limits) (forest : Forested) (pass : PassValue) : Type 0 where
  pub trees : forest.plan.trees ≡ cross_trees limits
  pub quota : forest.plan.quota ≡ limits.quota
  pub fresh : IsFresh forest pass

-- the pass is the same, and made the calls of the acts
pub record HasMade (pass after : PassValue) (acts : List Act) : Type 0 where
  pub same : IsSamePass pass after
  pub calls : after.track.calls ≡ calls_of acts

-- Sessions that ran over this forest, one or more: all passes are back, with the calls of the acts.
pub record HaveCalled (limits : Limits) (forest : CrossForest) (passes : List PassValue)
    (acts : List (List Act)) : Type 0 where
  pub some : 1 ≤ length acts
  pub opened : IsOpened limits (length acts) forest
  pub back : AreAllOf forest.trees passes
  pub called : map (λ pass. pass.track.calls) passes ≡ map calls_of acts

-- the lawful record of a forest of this plan, of what these passes did
pub record HasClosed (plan : Plan) (passes : List PassValue) (taken : Record) : Type 0 where
  pub lawful : IsLawful 0 cross_cap cross_join taken
  pub levels : taken.shape.levels ≡ plan.levels
  pub trees : taken.shape.trees ≡ plan.trees
  pub passes_are : taken.passes.items ≡ map did_of passes

-- What sessions left: a lawful record of so many trees, with the least leaves for so many sessions,
-- and the acts, which are the calls of their passes.
pub record HaveLeft (trees : ℕ) (taken : Record) (acts : List (List Act)) : Type 0 where
  pub some : 1 ≤ length acts
  pub lawful : IsLawful 0 cross_cap cross_join taken
  pub trees_are : taken.shape.trees ≡ trees
  pub levels : IsLeast (length acts) taken.shape.levels
  pub calls : map (λ did. did.calls) taken.passes.items ≡ map calls_of acts
