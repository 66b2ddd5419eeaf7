-- Tasks over the passes of new forests are ready.
use Rattle.std.proofs.Common.{◌≡◌, ℕ, zero, suc, ◌≤◌, List, [], ◌∷◌, ◌++◌, map, refl, sym, ap}
use Rattle.std.proofs.Common.{subst}
use Rattle.std.specs.List.{AllByRecursion}
use Rattle.limit_table.specs.declared.limits.Limits.{Limits}
use Rattle.limit_table.specs.Trees.{halt_tree}
use Rattle.node_rule.specs.declared.view.Plan.{Plan}
use Rattle.node_rule.specs.Standing.{Forested}
use Rattle.f_array.specs.Passes.{PassValue, IsPassOf, new_pass, new_passes}
use Rattle.gate_program.specs.Forests.{AreReady, IsForestFor}

-- a pass of the forest that made no call
abbrev IsFresh : Forested → PassValue → Type 0
IsFresh forest pass = IsPassOf forest pass × (pass.track.calls ≡ [])

all_pushed : {X : Type 0} (P : X → Type 0) (xs : List X) (x : X) → AllByRecursion P xs → P x
    → AllByRecursion P (xs ++ x ∷ [])
all_pushed P [] x all here = (here, tt)
all_pushed P (first ∷ xs) x all here = (all.0, all_pushed P xs x all.1 here)

all_fresh : (forest : Forested) (n : ℕ) → AllByRecursion (IsFresh forest) (new_passes forest n)
all_fresh forest zero = tt
all_fresh forest (suc n) =
    all_pushed (IsFresh forest) (new_passes forest n) (new_pass forest n) (all_fresh forest n)
    ((refl, refl), refl)

module _ (limits : Limits) (sums halts : Forested) (sessions : ℕ) (some : 1 ≤ limits.quota) (own : IsForestFor (halt_tree limits) sessions limits.quota sums)
    (other : IsForestFor 1 sessions limits.quota halts) where
  ready_each : {A : Type 0} (sum halt : A → PassValue) (tasks : List A)
      → AllByRecursion (IsFresh sums) (map sum tasks)
      → AllByRecursion (IsFresh halts) (map halt tasks)
      → AllByRecursion (λ t. AreReady limits sums halts (sum t) (halt t)) tasks
  ready_each sum halt [] p q = tt
  ready_each sum halt (task ∷ tasks) p q = (
    record {
      sum_trees = ap (λ (x : Plan). x.trees) own.plan;
      sum_quota = ap (λ (x : Plan). x.quota) own.plan;
      halt_trees = ap (λ (x : Plan). x.trees) other.plan;
      halt_quota = ap (λ (x : Plan). x.quota) other.plan;
      quota_some = some;
      sum_of = p.0.0;
      halt_of = q.0.0;
      sum_idle = p.0.1;
      halt_idle = q.0.1;
    },
    ready_each sum halt tasks p.1 q.1,
  )

  -- tasks over the passes of new forests are ready
  pub all_ready : {A : Type 0} (sum halt : A → PassValue) (tasks : List A) (n : ℕ)
      → map sum tasks ≡ new_passes sums n → map halt tasks ≡ new_passes halts n
      → AllByRecursion (λ t. AreReady limits sums halts (sum t) (halt t)) tasks
  all_ready sum halt tasks n p q =
      ready_each sum halt tasks (subst (AllByRecursion (IsFresh sums)) (sym p) (all_fresh sums n))
      (subst (AllByRecursion (IsFresh halts)) (sym q) (all_fresh halts n))
