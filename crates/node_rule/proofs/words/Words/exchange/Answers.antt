use Rattle.std.proofs.Common.{◌≡◌, ◌+◌, ℕ, ap, sym, subst, refl, ◌∙◌, arith}
use Rattle.std.proofs.Common.{suc, [], ◌∷◌, ◌++◌}
use Rattle.std.specs.Prelude.{Some, vec_len, vec_capacity}
use Rattle.stamp_word.specs.Word.{stamp_in}
use Rattle.node_rule.specs.declared.view.Ascent.{Ascent}
use Rattle.node_rule.specs.declared.view.Try.{Try}
use Rattle.node_rule.specs.declared.view.Install.{Install}
use Rattle.node_rule.specs.Views.{try_of}
use Rattle.node_rule.specs.Standing.{HasRoom}
use Rattle.node_rule.proofs.Held.{held_is, ascent_is}
use Rattle.node_rule.proofs.OnWay.{won_sound, lost_sound, won_room, lost_room}
use Rattle.node_rule.proofs.ClimbSteps.{exchange_allowed}
use Rattle.node_rule.proofs.words.Words.exchange.Goals as goal

pub in_hand-x-requires-clause-ascent : goal.in_hand-x-requires-clause-ascent
in_hand-x-requires-clause-ascent g c = (c.requires.stage.0, c.requires.stage.1)

pub exchange_if-requires-clause-allowed : goal.exchange_if-requires-clause-allowed
exchange_if-requires-clause-allowed g c =
    let seen = ap (λ s. s.view) c.climb.view_is ∙ c.requires.stage.1.1 in
    let held = held_is c.args.climb.now c.requires.stage.0 c.in_hand-x.result c.requires.stage.1
    c.in_hand-x.ensures.view in
    let full = c.requires.stage.2 in
    let tried = c.in-Some.tried in
    let hand_is : try_of c.in_hand-x.result.stage ≡ Some tried = sym c.try_held.ensures
    ∙ c.in-Some.is in
    let whole : Some tried ≡ Some (record {
      parent = full.0;
      left = Some full.1;
      right =
          Some full.2;
    }) = sym hand_is ∙ (ap (λ (h : Ascent). try_of h.stage) held ∙ full.3) in
    let is_full : tried ≡ record { parent = full.0; left = Some full.1; right = Some full.2 } =
    cc (whole) in
    let parent_is : tried.parent ≡ full.0 = ap (λ (h : Try). h.parent) is_full in
    exchange_allowed g.met.F.Fold.laws c.self.inside.table.table_id.slots c.climb.inside.seat.id
    c.climb.inside.seat.me (c.self.invariant.1 ∙ ap (λ w. w.plan) c.self.view_is)
    c.args.climb.now.plan.levels c.requires.stage.1.0 c.requires.stage.0 c.in_hand-x.result
    seen held c.place_near-place.result full.0 full.1 full.2 tried.parent
    c.full_word-word.result full.3
    parent_is
    (c.full_word-word.ensures.stamp ∙ ap (λ (n : ℕ). suc (stamp_in n)) parent_is)
    (c.full_word-word.ensures.value full.1 full.2 (ap (λ (h : Try). h.left) is_full)
    (ap (λ (h : Try). h.right) is_full))
    c.place_near-place.ensures.place

pub invariant_of-climb : goal.invariant_of-climb
invariant_of-climb g c =
    let x = c.in_hand-x.result in
    let is = ascent_is c.climb.invariant.0 _ _ x (ap (λ s. s.view) c.climb.view_is
    ∙ c.in_hand-x.ensures.view.1) in
    let after = c.in-Ok.ensures.told.0 refl in
    let hand_is = sym c.try_held.ensures ∙ c.in-Some.is in (
      won_sound c.climb.invariant.0 x is c.in-Some.tried hand_is c.push_reserved.new.self.items
          (c.push_reserved.ensures.items
          ∙ ap (λ (z : Install). c.climb.inside.trail.items ++ z ∷ []) c.install.ensures)
          c.risen_to-climb-inside.result (c.stamp_of.result + 1) c.risen_to-climb-inside.ensures
          (let e = c.stamp_of.ensures.stamp in omega arith) c.exchange_if.new.seat.me.0
          (ap (λ m. m.0) after),
      ap (λ m. m.1) after ∙ c.climb.invariant.1,
      won_room c.climb.invariant.0 x is c.climb.inside.spare _ _ _ _ _
          c.risen_to-climb-inside.result (c.stamp_of.result + 1) c.risen_to-climb-inside.ensures
          c.push_reserved.ensures.len
          (subst (λ (n : ℕ). HasRoom c.climb.inside.plan.levels c.climb.inside.spare
          (vec_len c.climb.inside.calls) (vec_capacity c.climb.inside.calls)
          (vec_len c.climb.inside.trail) n c.climb.inside.ascent)
          (sym c.push_reserved.ensures.capacity) c.climb.invariant.2),
      c.climb.invariant.3,
    )

pub invariant_of-climb-in-Err : goal.invariant_of-climb-in-Err
invariant_of-climb-in-Err g c =
    let x = c.in_hand-x.result in
    let is = ascent_is c.climb.invariant.0 _ _ x (ap (λ s. s.view) c.climb.view_is
    ∙ c.in_hand-x.ensures.view.1) in
    let told = c.in-Err.ensures.told in
    let after = told.1.1 told.0 in (
      lost_sound c.climb.invariant.0 x is c.in-Err.found c.after_lost-climb-inside.result
          c.after_lost-climb-inside.ensures c.exchange_if.new.seat.me.0 (ap (λ m. m.0) after),
      ap (λ m. m.1) after ∙ c.climb.invariant.1,
      lost_room c.climb.invariant.0 x is c.climb.inside.spare _ _ _ _ c.in-Err.found
          c.after_lost-climb-inside.result c.after_lost-climb-inside.ensures c.climb.invariant.2,
      c.climb.invariant.3,
    )
