-- An ascent from level to level.
use Rattle.std.proofs.Common.{◌≡◌, ℕ, suc, ◌/◌, ◌<◌, ◌≤◌, Bool, true, false, List, [], ◌∷◌, ◌++◌, Some, None, refl, sym, ap, ◌∙◌, subst, ⊎_elim, arith}
use Rattle.std.specs.Prelude.{IfSome, ◌==◌}
use Rattle.std.proofs.lemmas.List.{append-nil, append_assoc, length-append}
use Rattle.node_rule.specs.declared.view.View.{View}
use Rattle.node_rule.specs.declared.view.View.TheVariants.{Session}
use Rattle.node_rule.specs.declared.view.Track.{Track}
use Rattle.node_rule.specs.declared.view.Install.{Install}
use Rattle.node_rule.specs.declared.view.Ascent.{Ascent}
use Rattle.node_rule.specs.declared.view.Plan.{Plan}
use Rattle.node_rule.specs.Views.{ascent_of, pick, moved, risen, installed}
use Rattle.node_rule.specs.Own.{IsBelowRoot}
use Rattle.node_rule.specs.Standing.{Standing, KeepsSeat}
use Rattle.double_refresh.specs.Refreshing.{Rises}
use Rattle.f_array.specs.Passes.{with_installs}
use Rattle.f_array.specs.Rising.{IsFreshAt, IsBegun, IsUp}

-- no level yet
pub up_at_first : (c : Standing) → IsBegun c → IsUp c 0 c
up_at_first c h = record {
  kept = (refl, refl, refl);
  reached = omega arith;
  track = h.0;
  before = h.1;
  was = h.2;
  more = [];
  few = omega arith;
  ascent = h.1;
  now = h.2 ∙ ap (λ (l : List Install). Session c.plan.levels (record h.0 { trail = l }) h.1)
      (sym (append-nil h.0.trail));
  fresh = h.3;
}

risen_is_fresh : (x : Ascent) (stamp height : ℕ) → suc x.height ≡ height
    → IsFreshAt height (risen x stamp)
risen_is_fresh x stamp height up = at_top (x.node / 2 == 1)
  where
    at_top : (top : Bool) → IsFreshAt height (pick top None (Some (moved x stamp)))
    at_top true = tt
    at_top false = (refl, up)

-- one level more
pub up_next : (old mid new : Standing) (height : ℕ) → IsUp old height mid
    → IfSome (ascent_of mid.view) (IsBelowRoot mid.plan) → KeepsSeat mid new → Rises mid new
    → IsUp old (suc height) new
up_next old mid new height up below kept rises =
    let seen : Session old.plan.levels (with_installs up.more up.track) up.ascent
    ≡ Session mid.plan.levels rises.0 (Some rises.1) = sym up.now ∙ rises.4 in
    let track_is : rises.0 ≡ with_installs up.more up.track = cc (seen) in
    let ascent_is : up.ascent ≡ Some rises.1 = cc (seen) in
    let at : rises.1.height ≡ height =
    (subst (IsFreshAt height) ascent_is up.fresh).1 in
    let under : rises.1.height < mid.plan.levels =
    (subst (λ (v : View). IfSome (ascent_of v) (IsBelowRoot mid.plan)) rises.4 below).1 in
    let plans : mid.plan ≡ old.plan = up.kept.1 in
    let levels : mid.plan.levels ≡ old.plan.levels = ap (λ (p : Plan). p.levels) plans in
    let reached : suc height ≤ old.plan.levels = omega arith in
    let kept_all : KeepsSeat old new =
    (kept.0 ∙ up.kept.0, kept.1 ∙ up.kept.1, kept.2 ∙ up.kept.2) in
    let fresh : IsFreshAt (suc height) (risen rises.1 rises.3) =
    risen_is_fresh rises.1 rises.3 (suc height) (ap suc at) in
    ⊎_elim
    (λ (same : rises.2 ≡ rises.0). record {
      kept = kept_all;
      reached = reached;
      track = up.track;
      before = up.before;
      was = up.was;
      more = up.more;
      few = let few = up.few in omega arith;
      ascent = risen rises.1 rises.3;
      now = rises.5
          ∙ (λ i. Session (levels i) ((same ∙ track_is) i) (risen rises.1 rises.3));
      fresh = fresh;
    })
    (λ (won : (i : Install) × (rises.2 ≡ installed rises.0 i)). record {
      kept = kept_all;
      reached = reached;
      track = up.track;
      before = up.before;
      was = up.was;
      more = up.more ++ won.0 ∷ [];
      few = let few = up.few in let longer = length-append up.more (won.0 ∷ []) in omega arith;
      ascent = risen rises.1 rises.3;
      now = rises.5
          ∙ (λ i. Session (levels i) ((won.1 ∙ (ap (λ (t : Track). installed t won.0) track_is
          ∙ ap (λ (l : List Install). record up.track { trail = l })
          (append_assoc up.track.trail up.more (won.0 ∷ [])))) i) (risen rises.1 rises.3));
      fresh = fresh;
    })
    rises.6
