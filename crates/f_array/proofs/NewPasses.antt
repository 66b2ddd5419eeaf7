-- The passes of a new forest are all its passes.
use Rattle.std.proofs.Common.{◌≡◌, ◌⊎◌, ℕ, zero, suc, ◌<◌, List, [], ◌∷◌, ◌++◌, length, refl, sym, ap, ◌∙◌, subst, inl, inr, ⊎_elim, arith}
use Rattle.std.proofs.lemmas.List.{length-append}
use mathlib.Core.Option.{some, some-injective, some-ne-none}
use lib.ListN.{get_elem?}
use Rattle.node_rule.specs.Standing.{Forested}
use Rattle.f_array.specs.Passes.{PassValue, IsPassOf, IsSamePass, new_pass, new_passes}
use Rattle.f_array.specs.Records.{AreAllOf}
use Rattle.f_array.proofs.TakingBack.{stands_at}
use Rattle.std.specs.Prelude.{slice_index_or}

pub length-new_passes : (forest : Forested) (n : ℕ) → length (new_passes forest n) ≡ n
length-new_passes forest zero = refl
length-new_passes forest (suc n) =
    let before = length-new_passes forest n in
    let more = length-append (new_passes forest n) (new_pass forest n ∷ []) in
    omega arith

-- an element of a list with one more is of the list, or it is the last
of_longer : (passes : List PassValue) (last pass : PassValue) (k : ℕ)
    → get_elem? (passes ++ last ∷ []) k ≡ some pass
    → (get_elem? passes k ≡ some pass) ⊎ ((k ≡ length passes) × (last ≡ pass))
of_longer [] last pass zero here = inr (refl, some-injective last pass here)
of_longer [] last pass (suc k) here = absurd (some-ne-none pass (sym here))
of_longer (first ∷ passes) last pass zero here = inl here
of_longer (first ∷ passes) last pass (suc k) here =
    ⊎_elim (λ inside. inl inside) (λ at_end. inr (ap suc at_end.0, at_end.1))
    (of_longer passes last pass k here)

pub new_passes_by_number : (forest : Forested) (n k : ℕ) (pass : PassValue)
    → get_elem? (new_passes forest n) k ≡ some pass
    → IsPassOf forest pass × (pass.track.number ≡ k)
new_passes_by_number forest zero k pass here = absurd (some-ne-none pass (sym here))
new_passes_by_number forest (suc n) k pass here =
    ⊎_elim (λ inside. new_passes_by_number forest n k pass inside)
    (λ at_end.
    let number : n ≡ k = sym (at_end.0 ∙ length-new_passes forest n) in
    subst (λ (p : PassValue). IsPassOf forest p × (p.track.number ≡ k)) at_end.1
    ((refl, refl), number))
    (of_longer (new_passes forest n) (new_pass forest n) pass k here)

pub new_passes_are_all : (forest : Forested) (passes : List PassValue) (sessions : ℕ)
    → passes ≡ new_passes forest sessions → forest.plan.sessions ≡ sessions
    → AreAllOf forest passes
new_passes_are_all forest passes sessions is planned =
    subst (AreAllOf forest) (sym is) (record {
      all = length-new_passes forest sessions ∙ sym planned;
      each = new_passes_by_number forest sessions;
    })

-- passes of the same forest and numbers, in the same places, are all its passes too
pub same_passes_are_all : (forest : Forested) (before after : List PassValue)
    → length after ≡ length before
    → ((k : ℕ) (other : PassValue) → k < length before
    → IsSamePass (slice_index_or before k other) (slice_index_or after k other))
    → AreAllOf forest before → AreAllOf forest after
same_passes_are_all forest before after long same all = record {
  all = long ∙ all.all;
  each = λ k pass here.
      let short : k < length after = stands_within after k pass here in
      let short_before : k < length before = omega arith in
      let was = all.each k (slice_index_or before k pass) (stands_at before k pass short_before) in
      let is : slice_index_or after k pass ≡ pass =
      some-injective _ _ (sym (stands_at after k pass short) ∙ here) in
      let stays = same k pass short_before in
      subst (λ (p : PassValue). IsPassOf forest p × (p.track.number ≡ k)) is (
        (stays.0 ∙ was.0.0, stays.1 ∙ was.0.1),
        stays.2 ∙ was.1,
      );
}
  where
    stands_within : (passes : List PassValue) (k : ℕ) (pass : PassValue)
        → get_elem? passes k ≡ some pass → k < length passes
    stands_within [] k pass here = absurd (some-ne-none pass (sym here))
    stands_within (first ∷ passes) zero pass here = omega arith
    stands_within (first ∷ passes) (suc k) pass here =
        let within = stands_within passes k pass here in omega arith
