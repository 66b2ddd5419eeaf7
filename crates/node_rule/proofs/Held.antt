-- The ascent that a climb has in hand: where it stands, and the places of the nodes near it.
use Rattle.std.proofs.Common.{◌≡◌, ℕ, ◌+◌, ◌*◌, ◌/◌, ◌^◌, ◌<◌, ◌≤◌, List, Option, Some, sym, ap, ◌∙◌, subst, arith}
use Rattle.std.specs.Prelude.{IfSome}
use Rattle.stamp_word.specs.Places.{place_of}
use Rattle.risk_board.specs.declared.hand.Call.{Call}
use Rattle.node_rule.specs.declared.view.View.{View}
use Rattle.node_rule.specs.declared.view.View.TheVariants.{Session}
use Rattle.node_rule.specs.declared.view.Install.{Install}
use Rattle.node_rule.specs.declared.view.Track.{Track}
use Rattle.node_rule.specs.declared.view.Ascent.{Ascent}
use Rattle.node_rule.specs.declared.view.Plan.{Plan}
use Rattle.node_rule.specs.StampPart.{IsPlan}
use Rattle.node_rule.specs.Standing.{Standing, IsAt, IsStanding, IsOnWay, IsSound}
use Rattle.node_rule.proofs.Tree.{ancestor-within, ancestor-child}
use Rattle.node_rule.proofs.Places.{place-in}
use Rattle.node_rule.proofs.Children.{in_levels, below_levels}

pub on_way_stands : (under : ℕ → ℕ → Type 0) (plan : Plan) (number : ℕ) (x : Ascent) → IsPlan plan
    → IsOnWay under plan number x → IsStanding plan x
on_way_stands under plan number x planned h = let session_in : number < 2 ^ plan.levels =
    in_levels h.number_in planned.sessions in record {
      tree = h.tree;
      low = subst (λ (n : ℕ). 2 ≤ n) (sym h.node)
          (ancestor-child plan.levels x.height number session_in h.height);
      high = subst (λ (n : ℕ). n < 2 * 2 ^ plan.levels) (sym h.node)
          (ancestor-within plan.levels x.height number session_in (below_levels h.height)).high;
    }

module _ {under : ℕ → ℕ → Type 0} {plan : Plan} {number : ℕ} {calls : List Call}
    {trail : List Install} {ascent : Option Ascent} {view : View}
    (sound : IsSound under plan number calls trail ascent view) where
  -- the ascent that is held is on its way
  pub held_on_way : (x : Ascent) → ascent ≡ Some x → IsOnWay under plan number x
  held_on_way x e = subst (λ (o : Option Ascent). IfSome o
      (IsOnWay under plan number)) e sound.on_way

  -- an ascent of the view is the one that is held
  pub ascent_is : (levels : ℕ) (track : Track) (x : Ascent) → view ≡ Session levels track (Some x)
      → ascent ≡ Some x
  ascent_is levels track x seen = let own = sound.own in cc

-- a climb has one ascent in hand
pub held_is : (c : Standing) (x held : Ascent) → IsAt c x → IsAt c held → held ≡ x
held_is c x held at stood = let same = sym stood.1 ∙ at.1 in cc

module _ {plan : Plan} {x : Ascent} (stands : IsStanding plan x) where
  -- the place of the parent, or of a child of it, lies in the table
  pub near_place_in : (node levels place words : ℕ) → node < 2 * (x.node / 2) + 2
      → levels ≡ plan.levels → place ≡ place_of levels x.tree node
      → words ≡ plan.trees * (2 * 2 ^ plan.levels) → place < words
  near_place_in node levels place words near e place_is words_is =
      let high = stands.high in
      let here : place ≡ place_of plan.levels x.tree node = place_is
      ∙ ap (λ (n : ℕ). place_of n x.tree node) e in
      subst (λ (p : ℕ × ℕ). p.0 < p.1) (λ i. (sym here i, sym words_is i))
      (place-in plan.levels plan.trees x.tree node stands.tree (omega arith))
