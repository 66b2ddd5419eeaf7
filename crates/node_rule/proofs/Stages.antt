-- Steps that move the caller's ascent to another stage at the same node.
use Rattle.std.proofs.Common.{◌≡◌, ℕ, ◌<◌, List, set, Option, Some, None, refl, subst}
use mathlib.Core.Option.{some}
use lib.ListN.{get_elem?}
use Rattle.std.specs.Prelude.{IfSome}
use Rattle.node_rule.specs.declared.view.View.{View}
use Rattle.node_rule.specs.declared.view.View.TheVariants.{Keeper, Session, Spent}
use Rattle.node_rule.specs.declared.view.Stage.{Stage}
use Rattle.node_rule.specs.declared.view.Stage.TheVariants.{Fresh, First, Lost, Second}
use Rattle.node_rule.specs.declared.view.Track.{Track}
use Rattle.node_rule.specs.declared.view.Ascent.{Ascent}
use Rattle.node_rule.specs.declared.view.Plan.{Plan}
use Rattle.node_rule.specs.Views.{ascent_of, first_of, try_of, staged}
use Rattle.node_rule.specs.Fronts.{Board, board_of}
use Rattle.node_rule.specs.StampPart.{IsTry, IsStage, AreRefreshed, IsAscent, IsTrack, IsView, Refreshes, IsStamped}
use Rattle.node_rule.proofs.Quiet.{keeps_quietly}

pub stage_try : (plan : Plan) (b : Board) (tree node held : ℕ) (stage : Stage)
    → IsStage plan b tree node held stage → IfSome (try_of stage) (IsTry plan b tree node held)
stage_try plan b tree node held Fresh h = tt
stage_try plan b tree node held (First y) h = h
stage_try plan b tree node held (Lost s) h = tt
stage_try plan b tree node held (Second s y) h = h.1

-- what holds of each ascent that is in order holds of the view's ascent
pub view_ascent : (plan : Plan) (b : Board) (P : Ascent → Type 0) (u : View) → IsView plan b u
    → ((number : ℕ) (y : Ascent) → number < plan.sessions → IsAscent plan b number y
    → ascent_of u ≡ Some y → P y) → IfSome (ascent_of u) P
view_ascent plan b P (Keeper levels given joined) h f = tt
view_ascent plan b P (Session levels track None) h f = tt
view_ascent plan b P (Session levels track (Some y)) h f =
    f track.number y h.1.past.number h.1.present.ascends refl
view_ascent plan b P Spent h f = tt

track_staged : (plan : Plan) (b : Board) (track : Track) (x : Ascent) (stage : Stage)
    → IsTrack plan b track (Some x)
    → IsStage plan b x.tree x.node x.held stage
    → AreRefreshed plan b x.tree x.node x.held (first_of stage)
    → IsTrack plan b track (Some (staged x stage))
track_staged plan b track x stage h in_order refreshed = let c = h.present.ascends in record {
  past = h.past;
  present = record {
    ascends = record {
      tree = c.tree;
      height = c.height;
      node = c.node;
      held = c.held;
      covers =
          c.covers;
      stage = in_order;
      refreshed = refreshed;
    };
    idle = h.present.idle;
    fewer = h.present.fewer;
  };
}

pub there_of : (P : Option Ascent → Type 0) (o : Option Ascent) (y : Ascent) → o ≡ Some y → P o
    → P (Some y)
there_of P o y e p = subst P e p

-- A new stage keeps the stamp part where it is in order, and in order with each other ascent
pub keeps_staged : (plan : Plan) (words : List ℕ) (views : List View) (seat levels : ℕ)
    (track : Track) (x : Ascent) (stage : Stage)
    → (h : IsStamped plan words views) → get_elem? views seat ≡ some (Session levels track (Some x))
    → IsStage plan (board_of plan.levels words views) x.tree x.node x.held stage
    → AreRefreshed plan (board_of plan.levels words views) x.tree x.node x.held (first_of stage)
    → ((number : ℕ) (y : Ascent) → IsAscent plan (board_of plan.levels words views) number y
    → Refreshes x y → Refreshes (staged x stage) y)
    → ((number : ℕ) (y : Ascent) → IsAscent plan (board_of plan.levels words views) number y
    → Refreshes y x → Refreshes y (staged x stage))
    → (Refreshes x x → Refreshes (staged x stage) (staged x stage))
    → IsStamped plan words (set views seat (Session levels track (Some (staged x stage))))
keeps_staged plan words views seat levels track x stage h at in_order refreshed onward back itself =
    let b = board_of plan.levels words views in
    let v : View = Session levels track (Some x) in
    keeps_quietly plan words views seat levels track (Some x) (Some (staged x stage)) h at
    (track_staged plan b track x stage (h.each seat v at).1 in_order refreshed)
    (λ j u apart there. (
      view_ascent plan b (λ y. Refreshes (staged x stage) y) u (h.each j u there)
          (λ number y _ is same. onward number y is
          (there_of (λ o. IfSome o (λ z. Refreshes x z)) (ascent_of u) y same
          (h.pairs seat j v u at there))),
      view_ascent plan b (λ y. Refreshes y (staged x stage)) u (h.each j u there)
          (λ number y _ is same. back number y is
          (there_of (λ o. IfSome o (λ z. Refreshes z x)) (ascent_of u) y same
          (h.pairs j seat u v there at))),
    ))
    (itself (h.pairs seat seat v v at at))
