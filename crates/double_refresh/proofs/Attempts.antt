-- From the climb before a call of a try to the climb after it.
use Rattle.std.proofs.Common.{◌≡◌, ℕ, Some, refl, sym, ap, ◌∙◌}
use Rattle.stamp_word.specs.Word.{stamp_in}
use Rattle.node_rule.specs.declared.view.View.TheVariants.{Session}
use Rattle.node_rule.specs.declared.view.Stage.{Stage}
use Rattle.node_rule.specs.declared.view.Stage.TheVariants.{Fresh, First, Lost, Second}
use Rattle.node_rule.specs.declared.view.Track.{Track}
use Rattle.node_rule.specs.declared.view.Try.{Try}
use Rattle.node_rule.specs.declared.view.Ascent.{Ascent}
use Rattle.node_rule.specs.declared.view.Plan.{Plan}
use Rattle.node_rule.specs.Views.{try_of, staged, try_at, with_left, with_right}
use Rattle.node_rule.specs.Steps.{after_stage, parent_stage, left_stage, right_stage, ascent_lost}
use Rattle.node_rule.specs.Standing.{Standing, KeepsSeat, IsFresh, HasLostOnce, HasTry, HasFullTry, HasLoaded}
use Rattle.double_refresh.specs.Refreshing.{Loses}

pub left_try : (stage : Stage) (y : Try) (found : ℕ) → try_of stage ≡ Some y
    → try_of (left_stage stage found) ≡ Some (with_left y found)
left_try Fresh y found e = absurd (cc)
left_try (First z) y found e = let same : z ≡ y = cc (e) in
    ap (λ (t : Try). Some (with_left t found)) same
left_try (Lost s) y found e = absurd (cc)
left_try (Second s z) y found e = let same : z ≡ y = cc (e) in
    ap (λ (t : Try). Some (with_left t found)) same

pub right_try : (stage : Stage) (y : Try) (found : ℕ) → try_of stage ≡ Some y
    → try_of (right_stage stage found) ≡ Some (with_right y found)
right_try Fresh y found e = absurd (cc)
right_try (First z) y found e = let same : z ≡ y = cc (e) in
    ap (λ (t : Try). Some (with_right t found)) same
right_try (Lost s) y found e = absurd (cc)
right_try (Second s z) y found e = let same : z ≡ y = cc (e) in
    ap (λ (t : Try). Some (with_right t found)) same

-- an ascent's view after its stage changed
pub staged_view : (old new : Standing) (track : Track) (x : Ascent) (f : Stage → Stage)
    → new.plan ≡ old.plan → old.view ≡ Session old.plan.levels track (Some x)
    → new.view ≡ after_stage f old.view → new.view ≡ Session new.plan.levels track
    (Some (staged x (f x.stage)))
staged_view old new track x f same e v = v ∙ (ap (after_stage f) e
    ∙ ap (λ (p : Plan). Session p.levels track (Some (staged x (f x.stage)))) (sym same))

module _ (old left right : Standing) (track : Track) (x : Ascent) (y : Try) (l r : ℕ)
    (e : old.view ≡ Session old.plan.levels track (Some x)) (h : try_of x.stage ≡ Some y)
    (left_plan : left.plan ≡ old.plan) (right_plan : right.plan ≡ left.plan)
    (left_is : left.view ≡ after_stage (λ s. left_stage s l) old.view)
    (right_is : right.view ≡ after_stage (λ s. right_stage s r) left.view) where
  abbrev loaded : Ascent
  loaded = staged x (right_stage (left_stage x.stage l) r)

  pub right_view : right.view ≡ Session right.plan.levels track (Some loaded)
  right_view = staged_view left right track (staged x (left_stage x.stage l))
      (λ s. right_stage s r) right_plan (staged_view old left track x
      (λ s. left_stage s l) left_plan e left_is) right_is

  pub right_hand : try_of (right_stage (left_stage x.stage l) r) ≡ Some
      (with_right (with_left y l) r)
  right_hand = right_try (left_stage x.stage l) (with_left y l) r (left_try x.stage y l h)

  pub full_hand : (parent : ℕ) × (left' : ℕ) × (right' : ℕ)
      × (try_of (right_stage (left_stage x.stage l) r) ≡ Some
      (record { parent = parent; left = Some left'; right = Some right' }))
  full_hand = (y.parent, l, r, right_hand)

-- a try in hand is still one once the left child is loaded
pub left_keeps_try : (old new : Standing) → KeepsSeat old new → HasTry old
    → HasLoaded left_stage old new → HasTry new
left_keeps_try old new kept tried loaded =
    let x = tried.0 in let l = loaded.0 in (
      staged x (left_stage x.stage l),
      (
        tried.1.0,
        staged_view old new tried.1.0 x (λ s. left_stage s l) kept.1 tried.1.1 loaded.1,
      ),
      (with_left tried.2.0 l, left_try x.stage tried.2.0 l tried.2.1),
    )

-- and full once both are
pub full_try : (old left right : Standing) → KeepsSeat old left → KeepsSeat left right → HasTry old
    → HasLoaded left_stage old left → HasLoaded right_stage left right → HasFullTry right
full_try old left right left_kept right_kept tried left_loaded right_loaded =
    let x = tried.0 in let l = left_loaded.0 in let r = right_loaded.0 in (
      staged x (right_stage (left_stage x.stage l) r),
      (
        tried.1.0,
        right_view old left right tried.1.0 x tried.2.0 l r tried.1.1 tried.2.1 left_kept.1
            right_kept.1 left_loaded.1 right_loaded.1,
      ),
      full_hand old left right tried.1.0 x tried.2.0 l r tried.1.1 tried.2.1 left_kept.1
          right_kept.1 left_loaded.1 right_loaded.1,
    )

-- with the parent loaded the first try is in hand
first_view : (old first : Standing) → (kept : KeepsSeat old first) → (fresh : IsFresh old)
    → (loaded : HasLoaded parent_stage old first)
    → first.view ≡ Session first.plan.levels fresh.1.0
    (Some (staged fresh.0 (First (try_at loaded.0))))
first_view old first kept fresh loaded =
    staged_view old first fresh.1.0 (staged fresh.0 Fresh) (λ s. parent_stage s loaded.0) kept.1
    fresh.1.1 loaded.1

pub first_try : (old first : Standing) → KeepsSeat old first → IsFresh old
    → HasLoaded parent_stage old first → HasTry first
first_try old first kept fresh loaded = (
  staged fresh.0 (First (try_at loaded.0)),
  (fresh.1.0, first_view old first kept fresh loaded),
  (try_at loaded.0, refl),
)

-- where it lost, the ascent has lost once
lost_view : (first new : Standing) (track : Track) (x : Ascent) (word : ℕ)
    → first.view ≡ Session first.plan.levels track (Some (staged x (First (try_at word))))
    → Loses first new → new.plan ≡ first.plan
    → new.view ≡ Session new.plan.levels track (Some (staged x (Lost (stamp_in word))))
lost_view first new track x word seen h same =
    let other = sym seen ∙ h.3 in
    let tracks : h.0 ≡ track = cc (other) in
    let ascents : h.1 ≡ staged x (First (try_at word)) = cc (other) in
    h.4 ∙ ((λ i. Session first.plan.levels (tracks i)
    (ascent_lost (ascents i) h.2 (ascents i).stage))
    ∙ ap (λ (p : Plan). Session p.levels track (Some (staged x (Lost (stamp_in word)))))
    (sym same))

pub first_lost : (old first lost : Standing) → KeepsSeat old first → KeepsSeat first lost
    → IsFresh old → HasLoaded parent_stage old first → Loses first lost → HasLostOnce lost
first_lost old first lost kept kept_on fresh loaded loses = (
  fresh.0,
  stamp_in loaded.0,
  (
    fresh.1.0,
    lost_view first lost fresh.1.0 fresh.0 loaded.0 (first_view old first kept fresh loaded) loses
        kept_on.1,
  ),
)

-- with the parent loaded again the second try is in hand
pub second_try : (lost second : Standing) → KeepsSeat lost second → HasLostOnce lost
    → HasLoaded parent_stage lost second → HasTry second
second_try lost second kept once loaded = (
  staged once.0 (Second once.1 (try_at loaded.0)),
  (
    once.2.0,
    staged_view lost second once.2.0 (staged once.0 (Lost once.1)) (λ s. parent_stage s loaded.0)
        kept.1 once.2.1 loaded.1,
  ),
  (try_at loaded.0, refl),
)
