-- The forests of a run: what its sessions need of them, what they leave, and what a close gives.
use Rattle.std.specs.Prelude.{◌≡◌, ℕ, ◌≤◌, List, [], length, map, max}
use Rattle.fold_law.specs.declared.limits.TheConstants.{LEAF}
use Rattle.fold_law.specs.Sum.{sum_of}
use Rattle.limit_table.specs.declared.limits.Limits.{Limits}
use Rattle.risk_journal.specs.declared.acts.Act.{Act}
use Rattle.risk_journal.specs.ActLists.{calls_below, calls_at}
use Rattle.limit_table.specs.Trees.{halt_tree}
use Rattle.stamp_word.specs.Places.{IsLeast}
use Rattle.node_rule.specs.declared.view.Plan.{Plan}
use Rattle.node_rule.specs.Standing.{Forested, plan_of}
use Rattle.f_array.specs.Passes.{PassValue, IsPassOf, IsSamePass, new_passes}
use Rattle.f_array.specs.Records.{AreAllOf, did_of}
use Rattle.f_array.specs.declared.record.Record.{Record}
use Rattle.trail_replay.specs.Fronts.{IsLawful}
use Rattle.gate_program.specs.declared.forests.Forests.{Forests}
use Rattle.gate_program.specs.declared.forests.Passes.{Passes}
use Rattle.gate_program.specs.declared.forests.Records.{Records}

-- a forest of so many trees for so many sessions, of the least levels with a leaf for each
pub record IsForestFor (trees sessions quota : ℕ) (forest : Forested) : Type 0 where
  pub levels : ℕ
  pub least : IsLeast sessions levels
  pub plan : forest.plan ≡ plan_of levels trees sessions quota

-- the forests of these limits for so many sessions, with their keepers
pub record AreOpened (limits : Limits) (sessions : ℕ) (forests : Forests) : Type 0 where
  pub sums : IsForestFor (halt_tree limits) sessions limits.quota forests.sums
  pub halts : IsForestFor 1 sessions limits.quota forests.halts
  pub sum_keeper : forests.sum_keeper ≡ forests.sums
  pub halt_keeper : forests.halt_keeper ≡ forests.halts

-- a new pass of each session on both forests
pub record AreNew (sessions : ℕ) (forests : Forests) (passes : Passes) : Type 0 where
  pub sums : passes.sums.items ≡ new_passes forests.sums sessions
  pub halts : passes.halts.items ≡ new_passes forests.halts sessions

-- the forests are those of the limits, and these passes are of them and made no call
pub record AreReady (limits : Limits) (sums halts : Forested) (sum halt : PassValue) : Type 0 where
  pub sum_trees : sums.plan.trees ≡ halt_tree limits
  pub sum_quota : sums.plan.quota ≡ limits.quota
  pub halt_trees : halts.plan.trees ≡ 1
  pub halt_quota : halts.plan.quota ≡ limits.quota
  pub quota_some : 1 ≤ limits.quota
  pub sum_of : IsPassOf sums sum
  pub halt_of : IsPassOf halts halt
  pub sum_idle : sum.track.calls ≡ []
  pub halt_idle : halt.track.calls ≡ []

-- the passes are the same, and made the calls of the acts
pub record HaveMade (limits : Limits) (sum halt sum_after halt_after : PassValue) (acts : List Act)
    : Type 0 where
  pub sum_same : IsSamePass sum sum_after
  pub halt_same : IsSamePass halt halt_after
  pub sum_calls : sum_after.track.calls ≡ calls_below (halt_tree limits) acts
  pub halt_calls : halt_after.track.calls ≡ calls_at (halt_tree limits) acts

-- all passes of both forests are back
pub record AreBack (forests : Forests) (passes : Passes) : Type 0 where
  pub sums : AreAllOf forests.sums passes.sums.items
  pub halts : AreAllOf forests.halts passes.halts.items

-- the passes made the calls of these acts, one pass for each session
pub record HaveCalled (limits : Limits) (passes : Passes) (acts : List (List Act)) : Type 0 where
  pub sums : map (λ pass. pass.track.calls) passes.sums.items
      ≡ map (calls_below (halt_tree limits)) acts
  pub halts : map (λ pass. pass.track.calls) passes.halts.items
      ≡ map (calls_at (halt_tree limits)) acts

-- Sessions that ran over these forests, one or more: all passes are back, with the calls of the acts.
pub record HaveRun (limits : Limits) (forests : Forests) (passes : Passes) (acts : List (List Act))
    : Type 0 where
  pub some : 1 ≤ length acts
  pub opened : AreOpened limits (length acts) forests
  pub back : AreBack forests passes
  pub called : HaveCalled limits passes acts

-- the lawful record of a forest of this plan, of what these passes did
pub record HasClosed (unit cap : ℕ) (join : ℕ → ℕ → ℕ) (plan : Plan) (passes : List PassValue)
    (taken : Record) : Type 0 where
  pub lawful : IsLawful unit cap join taken
  pub levels : taken.shape.levels ≡ plan.levels
  pub trees : taken.shape.trees ≡ plan.trees
  pub passes_are : taken.passes.items ≡ map did_of passes

-- the lawful records of both forests
pub record HaveClosed (forests : Forests) (passes : Passes) (records : Records) : Type 0 where
  pub sums : HasClosed 0 LEAF sum_of forests.sums.plan passes.sums.items records.sums
  pub halts : HasClosed 0 LEAF max forests.halts.plan passes.halts.items records.halts

-- What sessions left: a lawful record of each forest, of so many trees of sums and one halt tree, with
-- the least leaves for so many sessions, and the acts, which are the calls of their passes.
pub record HaveLeft (trees : ℕ) (records : Records) (acts : List (List Act)) : Type 0 where
  pub some : 1 ≤ length acts
  pub lawful : IsLawful 0 LEAF sum_of records.sums
  pub halt_lawful : IsLawful 0 LEAF max records.halts
  pub sum_trees : records.sums.shape.trees ≡ trees
  pub halt_trees : records.halts.shape.trees ≡ 1
  pub levels : IsLeast (length acts) records.sums.shape.levels
  pub halt_levels : IsLeast (length acts) records.halts.shape.levels
  pub calls : map (λ did. did.calls) records.sums.passes.items ≡ map (calls_below trees) acts
  pub halt_calls : map (λ did. did.calls) records.halts.passes.items ≡ map (calls_at trees) acts
