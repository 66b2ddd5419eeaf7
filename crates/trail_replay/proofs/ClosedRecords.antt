-- What a close gives is a lawful record.
use Rattle.std.proofs.Common.{◌≡◌, ℕ, suc, ◌+◌, List, [], ◌∷◌, length, map, refl, ap, sym, ◌∙◌}
use Rattle.std.proofs.Common.{subst, arith}
use mathlib.Core.Option.{some}
use lib.ListN.{get_elem?}
use Rattle.std.proofs.lemmas.List.{length-map}
use Rattle.node_rule.specs.declared.view.View.{View}
use Rattle.node_rule.specs.declared.view.View.TheVariants.{Keeper}
use Rattle.node_rule.specs.declared.view.Track.{Track}
use Rattle.node_rule.specs.declared.view.Plan.{Plan}
use Rattle.node_rule.specs.Standing.{Forested, plan_of}
use Rattle.node_rule.specs.ValuePart.{IsKept}
use Rattle.f_array.specs.declared.record.Record.{Record}
use Rattle.f_array.specs.Passes.{PassValue}
use Rattle.f_array.specs.Records.{did_of, AreAllOf, IsShapeOf, final_view}
use Rattle.trail_replay.specs.Fronts.{tracks_from, view_of, IsLawful}

tracks-passes : (first : ℕ) (passes : List PassValue)
    → ((k : ℕ) (pass : PassValue) → get_elem? passes k ≡ some pass
    → pass.track.number ≡ first + k)
    → tracks_from first (map did_of passes) ≡ map (λ pass. pass.track) passes
tracks-passes first [] numbered = refl
tracks-passes first (pass ∷ passes) numbered =
    let number : pass.track.number ≡ first + 0 = numbered 0 pass refl in
    let same : first ≡ pass.track.number = omega arith in
    let rest = tracks-passes (first + 1) passes
    (λ k p at. numbered (suc k) p at ∙ omega arith) in
    ap (λ (n : ℕ). let track : Track =
    record { number = n; calls = pass.track.calls; trail = pass.track.trail } in
    track ∷ tracks_from (first + 1) (map did_of passes)) same
    ∙ ap (λ (tracks : List Track). pass.track ∷ tracks) rest

-- the words and the passes of a closed forest are a lawful record
pub closed_is_lawful : (unit cap : ℕ) (join : ℕ → ℕ → ℕ) (forest : Forested)
    (passes : List PassValue)
    (taken : Record) → AreAllOf forest passes → IsShapeOf forest.plan taken.shape
    → taken.passes.items ≡ map did_of passes
    → IsKept forest.plan unit cap join taken.words.items (final_view forest.plan passes ∷ [])
    → IsLawful unit cap join taken
closed_is_lawful unit cap join forest passes taken are shape did kept =
    let plan : Plan = forest.plan in
    let count : length taken.passes.items ≡ plan.sessions =
    ap length did ∙ (length-map passes did_of ∙ are.all) in
    let tracks : tracks_from 0 taken.passes.items ≡ map (λ pass. pass.track) passes =
    ap (tracks_from 0) did
    ∙ tracks-passes 0 passes (λ k pass at. (are.each k pass at).1 ∙ omega arith) in
    let same_plan : plan ≡ plan_of taken.shape.levels taken.shape.trees
    (length taken.passes.items) plan.quota =
    λ i. plan_of (sym shape.0 i) (sym shape.1 i) (sym count i) plan.quota in
    let same_view : final_view plan passes ≡ view_of taken.shape.levels taken.passes.items =
    λ i. Keeper (sym shape.0 i) (sym count i) (sym tracks i) in
    record {
      quota = plan.quota;
      kept = subst (λ (z : Plan × View). IsKept z.0 unit cap join taken.words.items (z.1 ∷ []))
          (λ i. (same_plan i, same_view i)) kept;
    }
