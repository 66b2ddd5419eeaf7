-- A post in the halt tree changes nothing in the trees of sums.
use Rattle.std.proofs.Common.{◌≡◌, ℕ, ◌<◌, ◌==◌, List, ◌∷◌, refl, sym, ap, ◌∙◌, arith, false}
use Rattle.std.proofs.Common.{Option, Some, None, IfSome}
use Rattle.std.proofs.lemmas.Bool.{ne_eqb}
use Rattle.std.proofs.lemmas.List.{length-append, length-map}
use Rattle.std.proofs.lemmas.Option.{slice_get_within}
use Rattle.limit_table.specs.Trees.{LimitsValue, halt_tree, limit_of, tree_limits}
use Rattle.limit_table.specs.Trees.{account_limits, symbol_limits}
use Rattle.risk_journal.specs.declared.acts.Act.{Act}
use Rattle.risk_journal.specs.ActLists.{last_post, events_of}
use Rattle.admit_core.specs.Admitted.{Standing, own_admitted, AdmitsLast}
use Rattle.admit_core.specs.Tapes.{with_post}
use Rattle.admit_core.proofs.AskedTrees.{KeepsTree}
use Rattle.admit_core.proofs.Standings.{standing_of-other, posts_in-other, last_post-other}

-- a post in the halt tree keeps another one
pub tripped_keeps : (limits : LimitsValue) (value tree : ℕ) (acts : List Act)
    → tree < halt_tree limits → KeepsTree tree acts (with_post (halt_tree limits) value acts)
tripped_keeps limits value tree acts below =
    let other : (halt_tree limits == tree) ≡ false =
    ne_eqb (halt_tree limits) tree (λ e. absurd (omega (arith, e, below))) in
    record {
      posts = posts_in-other tree (halt_tree limits) value acts other;
      last = last_post-other tree (halt_tree limits) value acts other;
    }

-- a tree with a limit is below the halt tree
limit_below : (limits : LimitsValue) (tree limit : ℕ) → limit_of limits tree ≡ Some limit
    → tree < halt_tree limits
limit_below limits tree limit is = omega (
  arith,
  slice_get_within (tree_limits limits) tree limit is,
  length-append (limits.firm ∷ account_limits limits.accounts) (symbol_limits limits.symbols),
  length-map limits.accounts (λ row. row.limit),
  length-map limits.symbols (λ row. row.limit),
)

pub tripped_admits : (limits : LimitsValue) (value : ℕ) (acts : List Act)
    → AdmitsLast limits acts → AdmitsLast limits (with_post (halt_tree limits) value acts)
tripped_admits limits value acts admits tree =
    by_limit (limit_of limits tree) refl (admits tree)
  where
    by_limit : (found : Option ℕ) → limit_of limits tree ≡ found
        → IfSome found (λ limit. own_admitted limit (events_of tree acts) ≡ last_post tree acts)
        → IfSome found (λ limit. own_admitted limit
        (events_of tree (with_post (halt_tree limits) value acts))
        ≡ last_post tree (with_post (halt_tree limits) value acts))
    by_limit None is holds = tt
    by_limit (Some limit) is holds =
        let below = limit_below limits tree limit is in
        let other : (halt_tree limits == tree) ≡ false =
        ne_eqb (halt_tree limits) tree (λ e. absurd (omega (arith, e, below))) in
        ap (λ (s : Standing). s.admitted)
        (standing_of-other limit tree (halt_tree limits) value acts other)
        ∙ holds ∙ sym (tripped_keeps limits value tree acts below).last
