-- An act that is no call changes neither what stands posted nor what is admitted.
use Rattle.std.proofs.Common.{◌≡◌, ℕ, List, [], ◌∷◌, ◌++◌, refl, ap, sym, ◌∙◌, arith, Option}
use Rattle.std.proofs.Common.{Some, None, IfSome, fold}
use Rattle.limit_table.specs.Trees.{LimitsValue, limit_of}
use Rattle.risk_journal.specs.declared.acts.Act.{Act}
use Rattle.risk_journal.specs.declared.acts.Act.TheVariants.{Post, Read}
use Rattle.risk_journal.specs.ActLists.{events_of, posts_in, last_post, latest, calls_below, calls_at}
use Rattle.admit_core.specs.Admitted.{Standing, after_event, own_admitted, AdmitsLast}
use Rattle.admit_core.specs.Tapes.{IsNoCall}
use Rattle.admit_core.proofs.ActLemmas.{posts_in-append, last_post-append}
use Rattle.admit_core.proofs.AskedTrees.{KeepsTree}
use Rattle.admit_core.proofs.Standings.{standing_of, standing_of-append}

-- neither hand made it
pub quiet_below : (count : ℕ) (act : Act) → IsNoCall act → calls_below count (act ∷ []) ≡ []
quiet_below count (Post own index value) none = absurd none
quiet_below count (Read own stamp place value) none = absurd none
quiet_below count act none = refl

pub quiet_at : (tree : ℕ) (act : Act) → IsNoCall act → calls_at tree (act ∷ []) ≡ []
quiet_at tree (Post own index value) none = absurd none
quiet_at tree (Read own stamp place value) none = absurd none
quiet_at tree act none = refl

-- it is no post and no event
pub quiet_last : (tree before : ℕ) (act : Act) → IsNoCall act → latest tree before act ≡ before
quiet_last tree before (Post own index value) none = absurd none
quiet_last tree before (Read own stamp place value) none = absurd none
quiet_last tree before act none = refl

no_post : (tree : ℕ) (act : Act) → IsNoCall act → posts_in tree (act ∷ []) ≡ 0
no_post tree (Post own index value) none = absurd none
no_post tree (Read own stamp place value) none = absurd none
no_post tree act none = refl

no_event : (tree : ℕ) (act : Act) → IsNoCall act → events_of tree (act ∷ []) ≡ []
no_event tree (Post own index value) none = absurd none
no_event tree (Read own stamp place value) none = absurd none
no_event tree act none = refl

pub noted_keeps : (tree : ℕ) (acts : List Act) (act : Act) → IsNoCall act
    → KeepsTree tree acts (acts ++ act ∷ [])
noted_keeps tree acts act none = record {
  posts = omega (arith, posts_in-append tree acts (act ∷ []), no_post tree act none);
  last = last_post-append tree acts (act ∷ []) ∙ quiet_last tree (last_post tree acts) act none;
}

pub noted_admits : (limits : LimitsValue) (acts : List Act) (act : Act) → IsNoCall act
    → AdmitsLast limits acts → AdmitsLast limits (acts ++ act ∷ [])
noted_admits limits acts act none admits tree = by_limit (limit_of limits tree) (admits tree)
  where
    by_limit : (found : Option ℕ)
        → IfSome found (λ limit. own_admitted limit (events_of tree acts) ≡ last_post tree acts)
        → IfSome found (λ limit. own_admitted limit (events_of tree (acts ++ act ∷ []))
        ≡ last_post tree (acts ++ act ∷ []))
    by_limit None holds = tt
    by_limit (Some limit) holds =
        let stands : standing_of limit tree (acts ++ act ∷ []) ≡ standing_of limit tree acts =
        standing_of-append limit tree acts (act ∷ [])
        ∙ ap (fold (after_event limit) (standing_of limit tree acts)) (no_event tree act none) in
        ap (λ (s : Standing). s.admitted) stands ∙ holds ∙ sym (noted_keeps tree acts act none).last
