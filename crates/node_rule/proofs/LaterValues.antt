-- The value part of a view that does not step, as stamps rise.
use Rattle.std.proofs.Common.{◌≡◌, ℕ, suc, ◌+◌, ◌-◌, ◌*◌, ◌/◌, ◌<◌, ◌≤◌, List, [], ◌∷◌, take, Option, Some, None, refl, sym, ◌∙◌, arith}
use mathlib.Core.Option.{some}
use lib.ListN.{get_elem?}
use Rattle.std.specs.Prelude.{IfSome}
use Rattle.stamp_word.specs.Word.{stamp_in, value_in}
use Rattle.node_rule.specs.declared.view.View.{View}
use Rattle.node_rule.specs.declared.view.View.TheVariants.{Keeper, Session, Spent}
use Rattle.risk_board.specs.declared.hand.Call.{Call}
use Rattle.risk_board.specs.declared.hand.Call.TheVariants.{Post, Read}
use Rattle.node_rule.specs.declared.view.Track.{Track}
use Rattle.node_rule.specs.declared.view.Try.{Try}
use Rattle.node_rule.specs.declared.view.Ascent.{Ascent}
use Rattle.node_rule.specs.declared.view.Plan.{Plan}
use Rattle.node_rule.specs.Views.{try_of}
use Rattle.node_rule.specs.Sums.{Each}
use Rattle.node_rule.specs.Fronts.{Board, IsDeep}
use Rattle.node_rule.specs.StampPart.{IsPlan, IsLoaded, IsTry, IsAscent, IsCall, IsPast, IsTrack, IsView}
use Rattle.node_rule.specs.ValuePart.{HasValues, IsCallValued, IsViewValued}
use Rattle.node_rule.proofs.Stages.{stage_try}
use Rattle.node_rule.proofs.Values.{child-deep, ascent-deep}

-- each element keeps its fact, by what holds at its place
pub each_with : {A : Type 0} (P Q : A → Type 0) (xs : List A)
    → ((k : ℕ) (x : A) → get_elem? xs k ≡ some x → P x → Q x) → Each P xs → Each Q xs
each_with P Q [] f h = tt
each_with P Q (x ∷ xs) f h = (f 0 x refl h.0, each_with P Q xs (λ k y e. f (suc k) y e) h.1)

if_both : {A : Type 0} (P Q R : A → Type 0) (o : Option A) → ((a : A) → P a → Q a → R a)
    → IfSome o P → IfSome o Q → IfSome o R
if_both P Q R None f p q = tt
if_both P Q R (Some a) f p q = f a p q

module _ (plan : Plan) (cap : ℕ) (b : Board) (planned : IsPlan plan) (f g : ℕ → ℕ → ℕ → ℕ → ℕ)
    (stays : (tree depth height node stamp : ℕ) → tree < plan.trees → depth + height ≡ plan.levels
    → IsDeep depth node → stamp ≤ b.stamp tree node
    → g tree height node stamp ≡ f tree height node stamp) where
  try_later : (number : ℕ) (x : Ascent) → number < plan.sessions → IsAscent plan b number x
      → (y : Try) → IsTry plan b x.tree x.node x.held y
      → HasValues plan cap f x.tree x.height x.node y
      → HasValues plan cap g x.tree x.height x.node y
  try_later number x number_in is y try h =
      let deep = ascent-deep plan b number x planned number_in is in
      let depth : ℕ = plan.levels - suc x.height in
      let up : depth + suc x.height ≡ plan.levels = let lt = is.height in omega arith in
      let here : suc depth + x.height ≡ plan.levels = let lt = is.height in omega arith in
      record {
        parent = h.parent ∙ sym (stays x.tree depth (suc x.height) (x.node / 2)
            (stamp_in y.parent) is.tree up deep try.reached);
        left = if_both (IsLoaded plan b x.tree x.node x.held y.parent (2 * (x.node / 2)))
            (λ w. value_in w ≡ f x.tree x.height (2 * (x.node / 2)) (stamp_in w))
            (λ w. value_in w ≡ g x.tree x.height (2 * (x.node / 2)) (stamp_in w)) y.left
            (λ w l v. v ∙ sym (stays x.tree (suc depth) x.height (2 * (x.node / 2))
            (stamp_in w) is.tree here (child-deep depth (x.node / 2) (2 * (x.node / 2)) deep
            (omega arith) (omega arith)) l.reached)) try.left h.left;
        right = if_both (IsLoaded plan b x.tree x.node x.held y.parent (2 * (x.node / 2) + 1))
            (λ w. value_in w ≡ f x.tree x.height (2 * (x.node / 2) + 1) (stamp_in w))
            (λ w. value_in w ≡ g x.tree x.height (2 * (x.node / 2) + 1) (stamp_in w)) y.right
            (λ w l v. v ∙ sym (stays x.tree (suc depth) x.height (2 * (x.node / 2) + 1)
            (stamp_in w) is.tree here (child-deep depth (x.node / 2) (2 * (x.node / 2) + 1) deep
            (omega arith) (omega arith)) l.reached)) try.right h.right;
      }

  call_later : (number : ℕ) (before : List Call) (call : Call) → IsCall plan b number before call
      → IsCallValued plan cap f call → IsCallValued plan cap g call
  call_later number before (Post tree value) is h = h
  call_later number before (Read tree stamp value) is h = h
      ∙ sym (stays tree 0 plan.levels 1 stamp is.tree_in (omega arith)
      (record { low = omega arith; high = omega arith }) is.reached)

  pub calls_later : (track : Track) → IsPast plan b track
      → Each (IsCallValued plan cap f) track.calls → Each (IsCallValued plan cap g) track.calls
  calls_later track is h = each_with (IsCallValued plan cap f) (IsCallValued plan cap g) track.calls
      (λ k call e. call_later track.number (take k track.calls) call (is.calls k call e)) h

  tracks_later : (tracks : List Track) → Each (λ (track : Track). IsTrack plan b track None) tracks
      → Each (λ (track : Track). Each (IsCallValued plan cap f) track.calls) tracks
      → Each (λ (track : Track). Each (IsCallValued plan cap g) track.calls) tracks
  tracks_later [] is h = tt
  tracks_later (track ∷ tracks) is h = (
    calls_later track is.0.past h.0,
    tracks_later tracks is.1 h.1,
  )

  ascent_later : (track : Track) (ascent : Option Ascent) → IsTrack plan b track ascent
      → IfSome ascent (λ x. IfSome (try_of x.stage) (HasValues plan cap f x.tree x.height x.node))
      → IfSome ascent (λ x. IfSome (try_of x.stage) (HasValues plan cap g x.tree x.height x.node))
  ascent_later track None is h = tt
  ascent_later track (Some x) is h = if_both (IsTry plan b x.tree x.node x.held)
      (HasValues plan cap f x.tree x.height x.node) (HasValues plan cap g x.tree x.height x.node)
      (try_of x.stage)
      (λ y. try_later track.number x is.past.number is.present.ascends y)
      (stage_try plan b x.tree x.node x.held x.stage is.present.ascends.stage) h

  pub view_values_later : (u : View) → IsView plan b u → IsViewValued plan cap f u
      → IsViewValued plan cap g u
  view_values_later (Keeper levels given joined) is h =
      record { loaded = tt; calls = tracks_later joined is.1 h.calls }
  view_values_later (Session levels track ascent) is h =
      record {
        loaded = ascent_later track ascent is.1 h.loaded;
        calls =
            (calls_later track is.1.past h.calls.0, tt);
      }
  view_values_later Spent is h = record { loaded = tt; calls = tt }
