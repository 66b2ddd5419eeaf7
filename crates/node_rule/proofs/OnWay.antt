-- From what an ascent knows of its own view to what its next step owes.
use Rattle.std.proofs.Common.{◌≡◌, ℕ, suc, ◌+◌, ◌*◌, ◌/◌, ◌^◌, ◌<◌, ◌≤◌, Bool, true, false, List, [], ◌∷◌, ◌++◌, Option, Some, None, refl, sym, ap, ◌∙◌, subst, arith, lit<}
use Rattle.fold_law.specs.declared.limits.TheConstants.{SESSIONS}
use Rattle.stamp_word.specs.declared.limits.TheConstants.{LEVELS}
use Rattle.std.specs.Prelude.{IfSome}
use Rattle.std.proofs.Math.Nat.{two-pow-succ, pow-le-pow_right, mul-le-mul_right}
use Rattle.stamp_word.specs.Word.{stamp_in}
use Rattle.stamp_word.specs.Places.{leaf_of}
use Rattle.node_rule.specs.declared.view.View.{View}
use Rattle.node_rule.specs.declared.view.View.TheVariants.{Session}
use Rattle.node_rule.specs.declared.view.Stage.{Stage}
use Rattle.node_rule.specs.declared.view.Stage.TheVariants.{Fresh, First, Lost, Second}
use Rattle.risk_board.specs.declared.hand.Call.{Call}
use Rattle.node_rule.specs.declared.view.Install.{Install}
use Rattle.node_rule.specs.declared.view.Track.{Track}
use Rattle.node_rule.specs.declared.view.Ascent.{Ascent}
use Rattle.node_rule.specs.declared.view.Try.{Try}
use Rattle.node_rule.specs.declared.view.Plan.{Plan}
use Rattle.node_rule.specs.Views.{installed, pick, moved, risen, try_of}
use Rattle.std.specs.Prelude.{◌==◌}
use Rattle.std.proofs.Common.{⊎_elim}
use Rattle.std.proofs.lemmas.Bool.{cases_lt, eqb-false}
use Rattle.node_rule.specs.Fronts.{ancestor}
use Rattle.node_rule.specs.StampPart.{IsPlan}
use Rattle.node_rule.specs.Steps.{ascent_lost, install_of, win, after_win, after_loss}
use Rattle.node_rule.specs.Standing.{IsOnWay, IsSound, HasRoom, levels_left}
use Rattle.node_rule.proofs.Tree.{ancestor-root}
use Rattle.node_rule.proofs.Children.{in_levels}

-- two children of a node at most four levels above the leaves are few enough to be joined
pub few_leaves : (height : ℕ) → height < LEVELS → 2 ^ height + 2 ^ height ≤ SESSIONS
few_leaves height lt = let twice : 2 ^ suc height ≡ 2 ^ height + 2 ^ height = two-pow-succ height in
    let most : 2 ^ suc height ≤ 2 ^ LEVELS = pow-le-pow_right (lit< tt) lt in omega arith

pub some_has : {A : Type 0} (P : A → Type 0) (o : Option A) (a : A) → o ≡ Some a → IfSome o P → P a
some_has P o a e h = subst (λ o'. IfSome o' P) e h

-- the ascent after a won exchange, or a second lost one, is on its way too
module _ (under : ℕ → ℕ → Type 0) (plan : Plan) (number : ℕ) (x : Ascent) (stamp : ℕ)
    (planned : IsPlan plan) (h : IsOnWay under plan number x) where
  risen_at : (top : Bool) → (x.node / 2 == 1) ≡ top
      → IfSome {T = Ascent} (pick top None (Some (moved x stamp))) (IsOnWay under plan number)
  risen_at true e = tt
  risen_at false e = let session_in : number < 2 ^ plan.levels =
      in_levels h.number_in planned.sessions in record {
        number_in = h.number_in;
        tree = h.tree;
        height = ⊎_elim (λ (lt : suc x.height < plan.levels). lt)
            (λ (ge : plan.levels ≤ suc x.height). let lt = h.height in
            let top : plan.levels ≡ suc x.height = omega arith in
            absurd (eqb-false (x.node / 2) 1 e (ap (λ (n : ℕ). n / 2) h.node
            ∙ (sym (ap (ancestor (leaf_of plan.levels number)) top)
            ∙ ancestor-root plan.levels number session_in))))
            (cases_lt (suc x.height) plan.levels);
        node = ap (λ (n : ℕ). n / 2) h.node;
        bounded = tt;
      }

  pub risen_on_way : IfSome (risen x stamp) (IsOnWay under plan number)
  risen_on_way = risen_at (x.node / 2 == 1) refl

  levels_at : (top : Bool) → suc (levels_left plan.levels
      (pick top None (Some (moved x stamp)))) ≤ levels_left plan.levels (Some x)
  levels_at true = let lt = h.height in omega arith
  levels_at false = let lt = h.height in omega arith

  -- with one install fewer to make
  pub risen_levels : suc (levels_left plan.levels (risen x stamp)) ≤ levels_left plan.levels
      (Some x)
  risen_levels = levels_at (x.node / 2 == 1)

pub lost_on_way : (under : ℕ → ℕ → Type 0) (plan : Plan) (number : ℕ) (x : Ascent) (found : ℕ)
    → IsPlan plan → IsOnWay under plan number x → (stage : Stage) → x.stage ≡ stage
    → IfSome (ascent_lost x found stage) (IsOnWay under plan number)
lost_on_way under plan number x found planned h Fresh e = h
lost_on_way under plan number x found planned h (First y) e =
    record {
      number_in = h.number_in;
      tree = h.tree;
      height = h.height;
      node = h.node;
      bounded =
          tt;
    }
lost_on_way under plan number x found planned h (Lost s) e = h
lost_on_way under plan number x found planned h (Second s y) e =
    risen_on_way under plan number x (stamp_in found) planned h

pub lost_levels : (under : ℕ → ℕ → Type 0) (plan : Plan) (number : ℕ) (x : Ascent) (found : ℕ)
    → IsPlan plan → IsOnWay under plan number x → (stage : Stage)
    → levels_left plan.levels (ascent_lost x found stage) ≤ levels_left plan.levels (Some x)
lost_levels under plan number x found planned h Fresh = omega arith
lost_levels under plan number x found planned h (First y) = omega arith
lost_levels under plan number x found planned h (Lost s) = omega arith
lost_levels under plan number x found planned h (Second s y) = let less =
    risen_levels under plan number x (stamp_in found) planned h in omega arith

pub win_is : (levels : ℕ) (track : Track) (x : Ascent) (stage : Stage) (y : Try)
    → try_of stage ≡ Some y → win levels track x stage ≡ Session levels
    (installed track (install_of x y)) (risen x (suc (stamp_in y.parent)))
win_is levels track x Fresh y e = absurd (cc)
win_is levels track x (First z) y e = let same : z ≡ y = cc (e) in
    ap (λ (t : Try). Session levels (installed track (install_of x t))
    (risen x (suc (stamp_in t.parent)))) same
win_is levels track x (Lost s) y e = absurd (cc)
win_is levels track x (Second s z) y e = let same : z ≡ y = cc (e) in
    ap (λ (t : Try). Session levels (installed track (install_of x t))
    (risen x (suc (stamp_in t.parent)))) same

module _ {under : ℕ → ℕ → Type 0} {plan : Plan} {number : ℕ} {calls : List Call}
    {trail : List Install} {ascent : Option Ascent} {view : View}
    (sound : IsSound under plan number calls trail ascent view)
    (held : Ascent) (is : ascent ≡ Some held) where
  -- the view, with the ascent that is held
  held_view : view
      ≡ Session plan.levels (record { number = number; calls = calls; trail = trail }) (Some held)
  held_view = sound.own
      ∙ ap (Session plan.levels (record { number = number; calls = calls; trail = trail })) is

  held_here : IsOnWay under plan number held
  held_here = some_has (IsOnWay under plan number) ascent held is sound.on_way

  -- what the fields are to the view after a won exchange
  pub won_sound : (tried : Try) → try_of held.stage ≡ Some tried → (made : List Install)
      → made ≡ trail ++ install_of held tried ∷ [] → (next : Option Ascent) (stamp : ℕ)
      → next ≡ risen held stamp → stamp ≡ suc (stamp_in tried.parent) → (after : View)
      → after ≡ after_win view
      → IsSound under plan number calls made next after
  won_sound tried e made made_is next stamp next_is stamp_is after after_is =
      let ascent_is : next ≡ risen held (suc (stamp_in tried.parent)) = next_is
      ∙ ap (risen held) stamp_is in
      subst (λ (z : List Install × Option Ascent × View).
      IsSound under plan number calls z.0 z.1 z.2)
      (λ i. (sym made_is i, sym ascent_is i, sym after_is i)) (record {
        planned = sound.planned;
        number_in = sound.number_in;
        own = ap after_win held_view ∙ win_is plan.levels _ held held.stage tried e;
        on_way = risen_on_way under plan number held
            (suc (stamp_in tried.parent)) sound.planned held_here;
      })

  -- and after a lost one
  pub lost_sound : (found : ℕ) (next : Option Ascent) → next ≡ ascent_lost held found held.stage
      → (after : View) → after ≡ after_loss found view
      → IsSound under plan number calls trail next after
  lost_sound found next next_is after after_is =
      subst (λ (z : Option Ascent × View). IsSound under plan number calls trail z.0 z.1)
      (λ i. (sym next_is i, sym after_is i)) (record {
        planned = sound.planned;
        number_in = sound.number_in;
        own = ap (after_loss found) held_view;
        on_way = lost_on_way under plan number held found sound.planned held_here held.stage refl;
      })

  pub won_room : (spare made call_room won install_room wins : ℕ) (next : Option Ascent) (stamp : ℕ)
      → next ≡ risen held stamp → wins ≡ won + 1
      → HasRoom plan.levels spare made call_room won install_room ascent
      → HasRoom plan.levels spare made call_room wins install_room next
  won_room spare made call_room won install_room wins next stamp next_is wins_is h =
      let less = risen_levels under plan number held stamp sound.planned held_here in
      let was : levels_left plan.levels ascent ≡ levels_left plan.levels (Some held) =
      ap (levels_left plan.levels) is in
      let now : levels_left plan.levels next ≡ levels_left plan.levels (risen held stamp) =
      ap (levels_left plan.levels) next_is in
      let few = h.installs in record { calls = h.calls; installs = omega arith }

  pub lost_room : (spare made call_room won install_room found : ℕ) (next : Option Ascent)
      → next ≡ ascent_lost held found held.stage
      → HasRoom plan.levels spare made call_room won install_room ascent
      → HasRoom plan.levels spare made call_room won install_room next
  lost_room spare made call_room won install_room found next next_is h =
      let less = lost_levels under plan number held found sound.planned held_here held.stage in
      let was : levels_left plan.levels ascent ≡ levels_left plan.levels (Some held) =
      ap (levels_left plan.levels) is in
      let now : levels_left plan.levels next ≡ levels_left plan.levels
      (ascent_lost held found held.stage) = ap (levels_left plan.levels) next_is in
      let few = h.installs in record { calls = h.calls; installs = omega arith }

-- the table has a word
pub some_words : (plan : Plan) (words : ℕ) → IsPlan plan
    → words ≡ plan.trees * (2 * 2 ^ plan.levels) → 0 < words
some_words plan words planned e =
    let one : 1 ≤ 2 ^ plan.levels = pow-le-pow_right {n = 2} (lit< tt) {i = 0} (omega arith) in
    let trees = planned.shape.1 in
    let wide : 1 ≤ 2 * 2 ^ plan.levels = omega arith in
    let more : 1 * (2 * 2 ^ plan.levels) ≤ plan.trees * (2 * 2 ^ plan.levels) =
    mul-le-mul_right (2 * 2 ^ plan.levels) trees in omega arith
