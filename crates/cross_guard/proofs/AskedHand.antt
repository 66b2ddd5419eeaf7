-- A hand that was asked whether an order would cross, as its acts tell it.
use Rattle.std.proofs.Common.{◌≡◌, ℕ, ◌+◌, ◌-◌, ◌<◌, ◌≤◌, List, [], ◌∷◌, ◌++◌, length, sym, ap, ◌∙◌, subst, arith}
use Rattle.std.proofs.Common.{false}
use Rattle.std.specs.Prelude.{IsTrue, nat_lt}
use Rattle.std.specs.List.{slice_index_or}
use Rattle.std.proofs.lemmas.Bool.{false_from_ne_true}
use Rattle.std.proofs.lemmas.Bool.Decides.{nat_tests}
use Rattle.risk_board.specs.Calls.{post_count}
use Rattle.risk_board.specs.Hands.{HandValue}
use Rattle.risk_journal.specs.declared.acts.Act.{Act}
use Rattle.risk_journal.specs.declared.acts.Act.TheVariants.{Post, Read}
use Rattle.risk_journal.specs.ActLists.{last_post, posts_in}
use Rattle.cross_guard.specs.declared.guarding.CrossOutcome.{CrossOutcome}
use Rattle.cross_guard.specs.declared.guarding.CrossVerdict.TheVariants as verdict
use Rattle.cross_guard.specs.Guarding.{is_spent}
use Rattle.cross_guard.specs.Halves.{cross_cap, cross_join, is_clear}
use Rattle.cross_guard.specs.Session.{guarding}
use Rattle.cross_guard.specs.Told.{AsksUnder, InStep}
use Rattle.cross_guard.proofs.Asked.{asks_crossed, asks_quota, asks_sent}
use Rattle.cross_guard.proofs.Capped.{join_capped}
use Rattle.cross_guard.proofs.ToldSteps.{made_is, spent_same}

-- what stands in a tree with a value more can be posted
pub joined_capped : (old new value : ℕ) → old ≤ cross_cap → value ≤ cross_cap
    → new ≡ cross_join old value → new ≤ cross_cap
joined_capped old new value low most joined = omega (arith, joined, join_capped old value low most)

module _ (hand : HandValue) (quota : ℕ) (acts : List Act) (lasts : List ℕ)
    (step : InStep hand quota acts lasts) (tree value old new left : ℕ) (inside : tree < length lasts)
    (is_old : old ≡ slice_index_or lasts tree 0) (is_new : new ≡ cross_join old value)
    (is_left : left ≡ hand.quota - post_count tree hand.calls) (outcome : CrossOutcome)
    (spent : (outcome.verdict ≡ verdict.Quota → IsTrue (is_spent hand tree))
    × (IsTrue (is_spent hand tree) → outcome.verdict ≡ verdict.Quota)) where
  -- the value that was posted is that of the definition
  value_is : new ≡ cross_join (last_post tree acts) value
  value_is = is_new ∙ ap (λ o. cross_join o value) (is_old ∙ step.lasts_are tree inside)

  old_is : old ≡ last_post tree acts
  old_is = is_old ∙ step.lasts_are tree inside

  some_left : (outcome.verdict ≡ verdict.Quota → ⊥) → nat_lt quota (posts_in tree acts + 2) ≡ false
  some_left other =
      sym (spent_same hand quota acts lasts step tree)
      ∙ false_from_ne_true (is_spent hand tree) (λ is. other (spent.1 is))

  made : (outcome.verdict ≡ verdict.Quota → ⊥) → quota - left ≡ posts_in tree acts
  made other =
      let some = some_left other in
      let few : posts_in tree acts ≤ quota = grind (arith, nat_tests) in
      made_is hand quota acts lasts step tree few left is_left

  pub quota_told : outcome.verdict ≡ verdict.Quota
      → AsksUnder quota (λ limits. guarding limits tree value) acts acts verdict.Quota
  quota_told is =
      asks_quota quota tree value acts
      (sym (spent_same hand quota acts lasts step tree) ∙ spent.0 is)

  module _ (sent : (outcome.verdict ≡ verdict.Quota → ⊥)
      → (outcome.verdict ≡ verdict.Sent → IsTrue (is_clear outcome.root.value))
      × (IsTrue (is_clear outcome.root.value) → outcome.verdict ≡ verdict.Sent)) where
    pub sent_told : outcome.verdict ≡ verdict.Sent
        → AsksUnder quota (λ limits. guarding limits tree value) acts
        (acts ++ Post tree (quota - left + 1) new
        ∷ Read tree outcome.root.stamp 0 outcome.root.value ∷ []) verdict.Sent
    sent_told is =
        let other : outcome.verdict ≡ verdict.Quota → ⊥ = λ q. cc in
        let A : ℕ → ℕ → Type 0 = λ n v. AsksUnder quota (λ limits. guarding limits tree value) acts
        (acts ++ Post tree (n + 1) v ∷ Read tree outcome.root.stamp 0 outcome.root.value ∷ [])
        verdict.Sent in
        subst (λ n. A n new) (sym (made other)) (subst (A (posts_in tree acts)) (sym value_is)
        (asks_sent quota tree value acts outcome.root (some_left other) ((sent other).0 is)))

    pub crossed_told : outcome.verdict ≡ verdict.Cross
        → AsksUnder quota (λ limits. guarding limits tree value) acts
        (acts ++ Post tree (quota - left + 1) new
        ∷ Read tree outcome.root.stamp 0 outcome.root.value ∷ Post tree (quota - left + 2) old ∷ [])
        verdict.Cross
    crossed_told is =
        let other : outcome.verdict ≡ verdict.Quota → ⊥ = λ q. cc in
        let A : ℕ → ℕ → ℕ → Type 0 = λ n v o. AsksUnder quota (λ limits. guarding limits tree value)
        acts (acts ++ Post tree (n + 1) v ∷ Read tree outcome.root.stamp 0 outcome.root.value
        ∷ Post tree (n + 2) o ∷ []) verdict.Cross in
        let crossed = false_from_ne_true (is_clear outcome.root.value)
        (λ clear. differ ((sent other).1 clear)) in
        subst (λ n. A n new old) (sym (made other)) (subst (λ v. A (posts_in tree acts) v old) (sym value_is)
        (subst (A (posts_in tree acts) (cross_join (last_post tree acts) value)) (sym old_is)
        (asks_crossed quota tree value acts outcome.root (some_left other) crossed)))
      where
        differ : outcome.verdict ≡ verdict.Sent → ⊥
        differ sent_is = cc
