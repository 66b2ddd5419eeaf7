-- Each step of a climb is allowed, from what the climb knows of its own view.
use Rattle.std.proofs.Common.{◌≡◌, ℕ, suc, ◌+◌, ◌*◌, ◌/◌, ◌<◌, Bool, List, Some, None, refl, sym, ap, ◌∙◌, subst, eqb}
use mathlib.Core.Option.{none}
use prog.Atomic.{either}
use Rattle.atomic_table.specs.Table.{State, Step, step, Allows, Splits, Joins}
use Rattle.stamp_word.specs.Word.{stamp_in, value_in}
use Rattle.stamp_word.specs.Places.{place_of}
use Rattle.fold_law.specs.Laws.{FoldLaws}
use Rattle.node_rule.specs.declared.view.View.{View}
use Rattle.node_rule.specs.declared.view.View.TheVariants.{Keeper, Session, Spent}
use Rattle.node_rule.specs.declared.view.Stage.{Stage}
use Rattle.node_rule.specs.declared.view.Stage.TheVariants.{Fresh, First, Lost, Second}
use Rattle.node_rule.specs.declared.view.Track.{Track}
use Rattle.node_rule.specs.declared.view.Ascent.{Ascent}
use Rattle.node_rule.specs.declared.view.Try.{Try}
use Rattle.node_rule.specs.declared.view.Plan.{Plan}
use Rattle.node_rule.specs.Views.{staged, try_of}
use Rattle.node_rule.specs.ValuePart.{IsKept}
use Rattle.node_rule.specs.Steps.{LoadsParent, LoadsLeft, LoadsRight, Exchanges, keeper_after_split, session_after_split, keeper_after_join, Mine}
use Rattle.node_rule.proofs.AllowedCalls.{allows_split, allows_join}
use Rattle.node_rule.proofs.Allowed.{allows_first_load, allows_second_load, allows_left_first, allows_left_second, allows_right_first, allows_right_second, allows_exchange_first, allows_exchange_second}

-- what follows in the first try and in the second follows of an ascent with a try in hand
in_a_try : (Owed : Type 0) (v : View) (levels : ℕ) (track : Track) (x : Ascent) (y : Try)
    → v ≡ Session levels track (Some x) → try_of x.stage ≡ Some y
    → (v ≡ Session levels track (Some (staged x (First y))) → Owed)
    → ((s : ℕ) → v ≡ Session levels track (Some (staged x (Second s y))) → Owed) → Owed
in_a_try Owed v levels track x y seen tried first second = by_stage x.stage refl tried
  where
    by_stage : (stage : Stage) → x.stage ≡ stage → try_of stage ≡ Some y → Owed
    by_stage Fresh is h = absurd (cc)
    by_stage (First z) is h = let same : z ≡ y = cc (h) in
        first (seen ∙ (λ i. Session levels track (Some (staged x ((is ∙ ap First same) i)))))
    by_stage (Lost s) is h = absurd (cc)
    by_stage (Second s z) is h = let same : z ≡ y = cc (h) in
        second s (seen ∙ (λ i. Session levels track (Some (staged x ((is ∙ ap (Second s) same)
        i)))))

module _ {unit cap : ℕ} {join : ℕ → ℕ → ℕ} {le : ℕ → ℕ → Bool} {under : ℕ → ℕ → Type 0}
    (laws : FoldLaws unit cap join le under) (slots id : ℕ) (me : Mine) {key plan : Plan}
    (key_is : key ≡ plan) where
  abbrev kept_by : Plan → State (Unit {0}) View → Type 0
  kept_by p s = IsKept p unit cap join s.words s.views

  module _ (levels : ℕ) (track : Track) (x held : Ascent)
      (seen : me.0 ≡ Session levels track (Some x)) (is : held ≡ x) (place : ℕ) where
    -- a load of a node near the ascent, from the view's own plan and ascent
    load_at : (tells : Step (Unit {0}) → Mine → ℕ → Mine → Type 0) (near : ℕ → ℕ)
        → place ≡ place_of plan.levels held.tree (near held.node)
        → Allows (kept_by plan) slots id me (place_of plan.levels x.tree (near x.node)) (λ n. n)
        (tells (step slots (place_of plan.levels x.tree (near x.node)) 0 0 none) me)
        → Allows (kept_by key) slots id me place (λ n. n) (tells (step slots place 0 0 none) me)
    load_at tells near place_is allowed =
        let here : place ≡ place_of plan.levels x.tree (near x.node) = place_is
        ∙ ap (λ (h : Ascent). place_of plan.levels h.tree (near h.node)) is in
        subst (λ (p : Plan × ℕ). Allows (kept_by p.0) slots id me p.1 (λ n. n)
        (tells (step slots p.1 0 0 none) me)) (λ i. (sym key_is i, sym here i)) allowed

    -- of its parent, for the first try or the second
    pub parent_allowed : try_of x.stage ≡ None
        → place ≡ place_of plan.levels held.tree (held.node / 2)
        → Allows (kept_by key) slots id me place (λ n. n)
        (LoadsParent (step slots place 0 0 none) me)
    parent_allowed awaits place_is = load_at LoadsParent (λ n. n / 2) place_is
        (by_stage x.stage refl awaits)
      where
        by_stage : (stage : Stage) → x.stage ≡ stage → try_of stage ≡ None
            → Allows (kept_by plan) slots id me (place_of plan.levels x.tree (x.node / 2)) (λ n. n)
            (LoadsParent (step slots (place_of plan.levels x.tree (x.node / 2)) 0 0 none) me)
        by_stage Fresh at h =
            allows_first_load plan unit cap join le under laws slots id me levels track x
            (seen ∙ (λ i. Session levels track (Some (staged x (at i)))))
        by_stage (First y) at h = absurd (cc)
        by_stage (Lost s) at h =
            allows_second_load plan unit cap join le under laws slots id me levels track x s
            (seen ∙ (λ i. Session levels track (Some (staged x (at i)))))
        by_stage (Second s y) at h = absurd (cc)

    -- of the parent's left child
    pub left_allowed : (y : Try) → try_of x.stage ≡ Some y
        → place ≡ place_of plan.levels held.tree (2 * (held.node / 2))
        → Allows (kept_by key) slots id me place (λ n. n)
        (LoadsLeft under (step slots place 0 0 none) me)
    left_allowed y tried place_is = load_at (LoadsLeft under) (λ n. 2 * (n / 2)) place_is
        (in_a_try _ me.0 levels track x y seen tried
        (allows_left_first plan unit cap join le under laws slots id me levels track x y)
        (λ s. allows_left_second plan unit cap join le under laws slots id me levels track x s y))

    -- of its right child
    pub right_allowed : (y : Try) → try_of x.stage ≡ Some y
        → place ≡ place_of plan.levels held.tree (2 * (held.node / 2) + 1)
        → Allows (kept_by key) slots id me place (λ n. n)
        (LoadsRight under (step slots place 0 0 none) me)
    right_allowed y tried place_is = load_at (LoadsRight under) (λ n. 2 * (n / 2) + 1) place_is
        (in_a_try _ me.0 levels track x y seen tried
        (allows_right_first plan unit cap join le under laws slots id me levels track x y)
        (λ s. allows_right_second plan unit cap join le under laws slots id me levels track x s y))

    -- the exchange of a full try
    pub exchange_allowed : (parent left right old new : ℕ)
        → try_of x.stage ≡ Some (record { parent = parent; left = Some left; right = Some right })
        → old ≡ parent → stamp_in new ≡ suc (stamp_in parent)
        → value_in new ≡ join (value_in left) (value_in right)
        → place ≡ place_of plan.levels held.tree (held.node / 2)
        → Allows (kept_by key) slots id me place (λ n. either (eqb n old) new n)
        (Exchanges (step slots place old new none) me)
    exchange_allowed parent left right old new full old_is stamp_is value_is place_is =
        let here : place ≡ place_of plan.levels x.tree (x.node / 2) = place_is
        ∙ ap (λ (h : Ascent). place_of plan.levels h.tree (h.node / 2)) is in
        subst (λ (p : Plan × ℕ × ℕ). Allows (kept_by p.0) slots id me p.1
        (λ n. either (eqb n p.2) new n) (Exchanges (step slots p.1 p.2 new none) me))
        (λ i. (sym key_is i, sym here i, sym old_is i))
        (in_a_try _ me.0 levels track x _ seen full
        (λ first. allows_exchange_first plan unit cap join le under laws slots id me levels track x
        parent left right new first stamp_is value_is)
        (λ s second. allows_exchange_second plan unit cap join le under laws slots id me levels
        track
        x s parent left right new second stamp_is value_is))

module _ {unit cap : ℕ} {join : ℕ → ℕ → ℕ} {le : ℕ → ℕ → Bool} {under : ℕ → ℕ → Type 0}
    (laws : FoldLaws unit cap join le under) (id : ℕ) {key plan : Plan} (key_is : key ≡ plan) where
  pub split_allowed : (v : View) (levels given : ℕ) (joined : List Track)
      → v ≡ Keeper levels given joined → given < plan.sessions
      → Splits (λ (s : State (Unit {0}) View). IsKept key unit cap join s.words s.views) id v
      (keeper_after_split v) (session_after_split v)
  split_allowed v levels given joined e room =
      subst (λ (p : Plan). Splits (λ (s : State (Unit {0}) View).
      IsKept p unit cap join s.words s.views) id v (keeper_after_split v) (session_after_split v))
      (sym key_is)
      (allows_split plan unit cap join le under laws 0 id v levels given joined e room)

  pub join_allowed : (v w : View) (other levels given other_levels : ℕ) (joined : List Track)
      (track : Track) → v ≡ Keeper levels given joined → w ≡ Session other_levels track None
      → Joins (λ (s : State (Unit {0}) View). IsKept key unit cap join s.words s.views) id v other w
      (keeper_after_join v w) Spent
  join_allowed v w other levels given other_levels joined track e d =
      subst (λ (p : Plan). Joins (λ (s : State (Unit {0}) View).
      IsKept p unit cap join s.words s.views) id v other w (keeper_after_join v w) Spent)
      (sym key_is)
      (allows_join plan unit cap join le under laws 0 id v w other levels given other_levels joined
      track e d)
