-- The part of the rule that speaks of values, and the whole rule.
use Rattle.std.specs.Prelude.{◌≡◌, ℕ, suc, ◌+◌, ◌*◌, ◌/◌, ◌<◌, ◌≤◌, List, IfSome}
use mathlib.Core.Option.{some}
use lib.ListN.{get_elem?}
use Rattle.stamp_word.specs.Word.{stamp_in, value_in}
use Rattle.node_rule.specs.declared.view.View.{View}
use Rattle.node_rule.specs.declared.view.Try.{Try}
use Rattle.node_rule.specs.declared.view.Plan.{Plan}
use Rattle.risk_board.specs.declared.hand.Call.{Call}
use Rattle.risk_board.specs.declared.hand.Call.TheVariants.{Post, Read}
use Rattle.node_rule.specs.Views.{tracks_of, ascent_of, try_of}
use Rattle.node_rule.specs.Sums.{Each}
use Rattle.node_rule.specs.Fronts.{IsDeep, word_at, value_at}
use Rattle.node_rule.specs.StampPart.{IsStamped}

-- of a value for each tree, height, node and stamp
module _ (plan : Plan) (cap : ℕ) (value : ℕ → ℕ → ℕ → ℕ → ℕ) where
  -- of an ascent in this tree, at this height and node: each loaded word has the value of its node
  -- at its stamp
  pub record HasValues (tree height node : ℕ) (y : Try) : Type 0 where
    pub parent : value_in y.parent ≡ value tree (suc height) (node / 2) (stamp_in y.parent)
    pub left : IfSome y.left (λ word. value_in word ≡ value tree height (2 * (node / 2))
        (stamp_in word))
    pub right : IfSome y.right (λ word. value_in word ≡ value tree height (2 * (node / 2) + 1)
        (stamp_in word))

  -- a post is within the fold's cap, and a read has the value of the stamp that it saw
  abbrev pub IsCallValued : Call → Type 0
  IsCallValued (Post tree posted) = posted ≤ cap
  IsCallValued (Read tree stamp read) = read ≡ value tree plan.levels 1 stamp

  -- the loaded words and the calls of a view
  pub record IsViewValued (v : View) : Type 0 where
    pub loaded : IfSome (ascent_of v) (λ x. IfSome (try_of x.stage)
        (HasValues x.tree x.height x.node))
    pub calls : Each (λ track. Each IsCallValued track.calls) (tracks_of v)

-- The value part
pub record IsValued (plan : Plan) (unit cap : ℕ) (join : ℕ → ℕ
    → ℕ) (words : List ℕ) (views : List View) : Type 0 where
  pub nodes : (tree depth height node : ℕ) → tree < plan.trees → depth + height ≡ plan.levels
      → IsDeep depth node → value_in (word_at plan.levels words tree node)
      ≡ value_at plan.levels unit join views tree height node
      (stamp_in (word_at plan.levels words tree node))
  pub each : (seat : ℕ) (v : View) → get_elem? views seat ≡ some v
      → IsViewValued plan cap (value_at plan.levels unit join views) v

-- The rule
pub record IsKept (plan : Plan) (unit cap : ℕ) (join : ℕ → ℕ
    → ℕ) (words : List ℕ) (views : List View) : Type 0 where
  pub stamps : IsStamped plan words views
  pub values : IsValued plan unit cap join words views
