-- The keeper takes back the sessions, one at a time.
use Rattle.std.proofs.Common.{◌≡◌, ℕ, zero, suc, ◌<◌, List, [], ◌∷◌, ◌++◌, length, map, refl, sym, ap, ◌∙◌, subst, arith}
use Rattle.std.specs.Prelude.{All, slice_index_or, None}
use Rattle.std.proofs.lemmas.List.{append_assoc, map-append}
use mathlib.Core.Option.{some}
use lib.ListN.{get_elem?}
use Rattle.risk_board.specs.declared.hand.Call.{Call}
use Rattle.node_rule.specs.declared.view.View.TheVariants.{Session}
use Rattle.node_rule.specs.declared.view.Track.{Track}
use Rattle.node_rule.specs.declared.view.Install.{Install}
use Rattle.node_rule.specs.Standing.{Forested, Standing, Keeping, TakesBack, AreListsOf}
use Rattle.f_array.specs.Passes.{PassValue, track_of, pass_of, IsPassOf}
use Rattle.f_array.specs.Records.{Did, did_of, AreAllOf, HasTakenBack}

-- the track of an idle climb is its pass's
track_is_of_pass : (climb : Standing) (pass : PassValue) (track : Track) → pass_of climb ≡ pass
    → climb.view ≡ Session climb.plan.levels track None → track ≡ pass.track
track_is_of_pass climb pass track is idle =
    sym (ap track_of idle) ∙ ap (λ (p : PassValue). p.track) is

-- the keeper has one session more back
pub has_one_more_back : (given : ℕ) (taken : List PassValue) (pass : PassValue)
    (climb : Standing) (keeper after : Keeping) → pass_of climb ≡ pass
    → HasTakenBack given taken keeper → TakesBack keeper climb after
    → HasTakenBack given (taken ++ pass ∷ []) after
has_one_more_back given taken pass climb keeper after is back takes =
    let track_is : takes.0 ≡ pass.track = track_is_of_pass climb pass takes.0 is takes.1 in
    let tracks : map (λ (p : PassValue). p.track) taken ++ takes.0 ∷ []
    ≡ map (λ (p : PassValue). p.track) (taken ++ pass ∷ []) =
    ap (λ (t : Track). map (λ (p : PassValue). p.track) taken ++ t ∷ []) track_is
    ∙ sym (map-append (λ (p : PassValue). p.track) taken (pass ∷ [])) in (
      ap (λ (k : Keeping). k.given) takes.2 ∙ back.0,
      ap (λ (k : Keeping). k.joined) takes.2
          ∙ (ap (λ (l : List Track). l ++ takes.0 ∷ []) back.1 ∙ tracks),
    )

-- the lists that a join gives are what the pass did
pub did_is_of_pass : (climb : Standing) (pass : PassValue) (calls : List Call)
    (trail : List Install) → pass_of climb ≡ pass → AreListsOf climb calls trail
    → record { calls = calls; trail = trail } ≡ did_of pass
did_is_of_pass climb pass calls trail is lists =
    let track_is : lists.0 ≡ pass.track = track_is_of_pass climb pass lists.0 is lists.1 in
    λ i. record {
      calls = (lists.2 ∙ ap (λ (t : Track). t.calls) track_is) i;
      trail = (lists.3 ∙ ap (λ (t : Track). t.trail) track_is) i;
    }

-- what all taken passes did, with one more
pub did_one_more : (taken : List PassValue) (pass : PassValue) (before after : List Did)
    (did : Did) → before ≡ map did_of taken → after ≡ before ++ did ∷ [] → did ≡ did_of pass
    → after ≡ map did_of (taken ++ pass ∷ [])
did_one_more taken pass before after did was now is =
    now ∙ ((λ i. was i ++ is i ∷ []) ∙ sym (map-append did_of taken (pass ∷ [])))

-- the passes that were taken and those that are left
pub taken_and_left : (taken here left all : List PassValue) (pass : PassValue)
    → taken ++ here ≡ all → here ≡ pass ∷ left → (taken ++ pass ∷ []) ++ left ≡ all
taken_and_left taken here left all pass whole is =
    append_assoc taken (pass ∷ []) left
    ∙ (ap (λ (l : List PassValue). taken ++ l) (sym is) ∙ whole)

pub stands_at : (passes : List PassValue) (k : ℕ) (other : PassValue) → k < length passes
    → get_elem? passes k ≡ some (slice_index_or passes k other)
stands_at [] k other short = absurd (omega arith)
stands_at (pass ∷ passes) zero other short = refl
stands_at (pass ∷ passes) (suc k) other short = stands_at passes k other (omega arith)

-- all passes are of the forest
pub all_are_of : (forest words : Forested) (passes : List PassValue) → words ≡ forest
    → AreAllOf forest passes → All (IsPassOf words) passes
all_are_of forest words passes same all k other short =
    subst (λ (f : Forested). IsPassOf f (slice_index_or passes k other)) (sym same)
    (all.each k (slice_index_or passes k other) (stands_at passes k other short)).0
