use Rattle.std.proofs.Common.{◌≡◌, ℕ, ◌^◌, ◌<◌, ◌≤◌, ap, sym, subst, ◌∙◌, arith, lit<}
use Rattle.std.proofs.Math.Nat.{pow-le-pow_right}
use Rattle.std.specs.Prelude.{None, Option}
use Rattle.stamp_word.specs.Places.{place_of}
use Rattle.node_rule.specs.declared.view.Plan.{Plan}
use Rattle.risk_board.specs.declared.hand.Call.{Call}
use Rattle.risk_board.specs.declared.hand.Call.TheVariants.{Read}
use Rattle.node_rule.specs.declared.view.View.TheVariants.{Session}
use Rattle.node_rule.specs.declared.view.Ascent.{Ascent}
use Rattle.node_rule.specs.Views.{called}
use Rattle.node_rule.proofs.Idle.{latest_told, read_room, read_told, idle_seat, called_sound, read_counted, read_allowed}
use Rattle.node_rule.proofs.words.Words.read_root.Goals as goal

pub load-word-requires-clause-allowed : goal.load-word-requires-clause-allowed
load-word-requires-clause-allowed g c =
    let track = c.requires.idle.0 in
    let seen : c.climb.inside.seat.me.0 ≡ Session c.args.climb.now.plan.levels track None =
    ap (λ s. s.view) c.climb.view_is ∙ c.requires.idle.1 in
    let one : 1 ≤ 2 ^ c.self.inside.plan.levels =
    pow-le-pow_right {n = 2} (lit< tt) {i = 0} (omega arith) in
    let tree_in : c.args.tree < c.self.inside.plan.trees =
    subst (λ (p : Plan). c.args.tree < p.trees) (c.requires.table.1
    ∙ sym (ap (λ s. s.plan) c.self.view_is)) c.requires.tree in
    read_allowed g.met.F.Fold.laws c.self.inside.table.table_id.slots c.climb.inside.seat.id
    c.climb.inside.seat.me c.self.invariant.1 c.args.climb.now.plan.levels track c.args.tree
    c.root-place.result seen tree_in (omega arith)
    (c.root-place.ensures ∙ ap (λ (n : ℕ). place_of n c.args.tree 1) c.shape_of.ensures.0)

pub returns-clause-view : goal.returns-clause-view
returns-clause-view g c =
    let track = c.requires.idle.0 in
    let seen = ap (λ s. s.view) c.climb.view_is ∙ c.requires.idle.1 in (
      track,
      c.requires.idle.1,
      read_told c.self.inside.plan c.args.climb.now.plan.levels track c.args.tree
          c.root-place.result c.load-word.result c.stamp_of.result c.value_of.result
          c.climb.inside.seat.me c.load-word.new.seat.me seen
          (ap (λ (p : Plan). p.levels) (c.requires.table.1 ∙ sym (ap (λ s. s.plan) c.self.view_is)))
          (c.root-place.ensures ∙ ap (λ (n : ℕ). place_of n c.args.tree 1) c.shape_of.ensures.0)
          c.stamp_of.ensures.stamp c.value_of.ensures.value c.load-word.ensures.told.0,
    )

pub invariant_of-climb : goal.invariant_of-climb
invariant_of-climb g c =
    let track = c.requires.idle.0 in
    let seen = ap (λ s. s.view) c.climb.view_is ∙ c.requires.idle.1 in
    let seat = idle_seat c.climb.invariant.0 c.args.climb.now.plan.levels track seen in
    let after = read_told c.self.inside.plan c.args.climb.now.plan.levels track c.args.tree
    c.root-place.result c.load-word.result c.stamp_of.result c.value_of.result
    c.climb.inside.seat.me c.load-word.new.seat.me seen
    (ap (λ (p : Plan). p.levels) (c.requires.table.1 ∙ sym (ap (λ s. s.plan) c.self.view_is)))
    (c.root-place.ensures ∙ ap (λ (n : ℕ). place_of n c.args.tree 1) c.shape_of.ensures.0)
    c.stamp_of.ensures.stamp c.value_of.ensures.value c.load-word.ensures.told.0 in
    let made = c.push_reserved.ensures.items in
    let call : Call = Read c.args.tree c.stamp_of.result c.value_of.result in (
      called_sound c.climb.invariant.0 c.args.climb.now.plan.levels track seen call
          c.push_reserved.new.self.items made
          c.climb.inside.ascent
          c.climb.invariant.0.on_way c.load-word.new.seat.me.0
          (after ∙ ap (λ (o : Option Ascent). Session c.args.climb.now.plan.levels
          (called track call) o) (sym seat.no_ascent)),
      ap (λ m. m.1) c.load-word.ensures.told.0 ∙ c.climb.invariant.1,
      read_room c.climb.inside.plan.levels c.climb.inside.spare _ _ _ _ _ _ c.climb.inside.ascent
          (let some = ap (λ s. s.spare) c.climb.view_is in let spare = c.requires.spare in
          omega arith) c.push_reserved.ensures.len c.push_reserved.ensures.capacity
          c.climb.invariant.2,
      read_counted c.climb.inside.plan c.climb.inside.calls.items
          c.push_reserved.new.self.items c.climb.inside.counts.items c.args.tree c.stamp_of.result
          c.value_of.result made c.climb.invariant.3,
    )

pub returns-clause-latest : goal.returns-clause-latest
returns-clause-latest g c =
    let track = c.requires.idle.0 in
    let seen : c.climb.inside.seat.me.0 ≡ Session c.args.climb.now.plan.levels track None =
    ap (λ s. s.view) c.climb.view_is ∙ c.requires.idle.1 in (
      track,
      c.requires.idle.1,
      latest_told c.self.inside.plan c.args.climb.now.plan.levels track c.args.tree
          c.root-place.result c.load-word.result c.stamp_of.result c.climb.inside.seat.me.0 seen
          (ap (λ (p : Plan). p.levels) (c.requires.table.1 ∙ sym (ap (λ s. s.plan) c.self.view_is)))
          (c.root-place.ensures ∙ ap (λ (n : ℕ). place_of n c.args.tree 1) c.shape_of.ensures.0)
          c.stamp_of.ensures.stamp c.load-word.ensures.told.1,
    )
