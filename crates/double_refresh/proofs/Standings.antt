-- Where an ascent stands after a post, and at the root.
use Rattle.std.proofs.Common.{◌≡◌, ℕ, suc, ◌≤◌, Option, Some, None, sym, ap, ◌∙◌, subst, arith}
use Rattle.std.specs.Prelude.{IfSome}
use Rattle.stamp_word.specs.Places.{leaf_of}
use Rattle.risk_board.specs.declared.hand.Call.TheVariants.{Post}
use Rattle.node_rule.specs.declared.view.View.{View}
use Rattle.node_rule.specs.declared.view.View.TheVariants.{Session}
use Rattle.node_rule.specs.declared.view.Stage.TheVariants.{Fresh}
use Rattle.node_rule.specs.declared.view.Track.{Track}
use Rattle.node_rule.specs.declared.view.Ascent.{Ascent}
use Rattle.node_rule.specs.declared.view.Plan.{Plan}
use Rattle.node_rule.specs.Views.{ascent_of, called, started, risen}
use Rattle.node_rule.specs.Sums.{posts_in}
use Rattle.node_rule.specs.Own.{node_in, IsBelowRoot}
use Rattle.node_rule.specs.Standing.{Standing, IsFresh, IsIdle, HasPosted}
use Rattle.double_refresh.specs.Refreshing.{Rises}

-- with a level above the leaf a post begins an ascent
pub posted_is_fresh : (tree value : ℕ) (old new : Standing) → old.plan.levels ≡ 1
    → new.plan ≡ old.plan → HasPosted tree value old new → IsFresh new
posted_is_fresh tree value old new one same posted =
    let track = posted.0 in
    let after : Track = called track (Post tree value) in
    let ascent_at : ℕ → Option Ascent =
    λ levels. started levels tree (leaf_of old.plan.levels track.number)
    (suc (posts_in tree track)) in (
      record {
        tree = tree;
        node = leaf_of old.plan.levels track.number;
        height = 0;
        held = suc (posts_in tree track);
        stage = Fresh;
      },
      (
        after,
        posted.2 ∙ (ap (λ (n : ℕ). Session old.plan.levels after (ascent_at n)) one
            ∙ ap (λ (p : Plan). Session p.levels after (ascent_at 1)) (sym same)),
      ),
    )

-- an ascent that rose to the root is over
pub risen_is_idle : (old new : Standing) → Rises old new → new.plan ≡ old.plan
    → IfSome (ascent_of new.view) (IsBelowRoot new.plan) → node_in (ascent_of new.view) ≡ 1
    → IsIdle new
risen_is_idle old new rises same below root = of_ascent (risen rises.1 rises.3) rises.5
  where
    of_ascent : (ascent : Option Ascent) → new.view ≡ Session old.plan.levels rises.2 ascent
        → IsIdle new
    of_ascent None now = (
      rises.2,
      now ∙ ap (λ (p : Plan). Session p.levels rises.2 None) (sym same),
    )
    of_ascent (Some x) now =
        let low : 2 ≤ x.node =
        (subst (λ (v : View). IfSome (ascent_of v) (IsBelowRoot new.plan)) now below).0 in
        let one : x.node ≡ 1 = sym (ap (λ (v : View). node_in (ascent_of v)) now) ∙ root in
        absurd (omega arith)
