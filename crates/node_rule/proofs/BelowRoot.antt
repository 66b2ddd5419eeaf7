-- An ascent on its way stands below the root.
use Rattle.std.proofs.Common.{ℕ, List, Option, Some, None, sym, ap, subst}
use Rattle.std.specs.Prelude.{IfSome}
use Rattle.risk_board.specs.declared.hand.Call.{Call}
use Rattle.node_rule.specs.declared.view.View.{View}
use Rattle.node_rule.specs.declared.view.Install.{Install}
use Rattle.node_rule.specs.declared.view.Ascent.{Ascent}
use Rattle.node_rule.specs.declared.view.Plan.{Plan}
use Rattle.node_rule.specs.Views.{ascent_of}
use Rattle.node_rule.specs.Own.{IsBelowRoot}
use Rattle.node_rule.specs.Standing.{IsOnWay, IsSound}
use Rattle.node_rule.proofs.Held.{on_way_stands}

module _ (under : ℕ → ℕ → Type 0) (plan : Plan) (number : ℕ) (calls : List Call)
    (trail : List Install) (ascent : Option Ascent) (view : View) where
  pub ascent_below_root : IsSound under plan number calls trail ascent view
      → IfSome (ascent_of view) (IsBelowRoot plan)
  ascent_below_root sound =
      subst (λ (o : Option Ascent). IfSome o (IsBelowRoot plan))
      (sym (ap ascent_of sound.own)) (below ascent sound.on_way)
    where
      below : (o : Option Ascent) → IfSome o (IsOnWay under plan number)
          → IfSome o (IsBelowRoot plan)
      below None way = tt
      below (Some x) way =
          let stands = on_way_stands under plan number x sound.planned way in
          (stands.low, way.height)
