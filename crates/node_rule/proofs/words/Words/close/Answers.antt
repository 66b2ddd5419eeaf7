use Rattle.node_rule.specs.declared.view.View.{View}
use Rattle.node_rule.specs.declared.view.View.TheVariants.{Keeper}
use Rattle.node_rule.specs.Views.{tracks_of}
use Rattle.node_rule.specs.ValuePart.{IsKept}
use Rattle.std.proofs.Common.{ℕ, List, [], ◌∷◌, ◌≡◌, length, ap, sym, subst, ◌∙◌, arith}
use Rattle.std.specs.Slots.{slots_items}
use Rattle.node_rule.proofs.Closing.{close_kept, if_ok}
use Rattle.node_rule.proofs.words.Words.close.Goals as goal

pub free-requires : goal.free-requires
free-requires g c = λ k h. let none = c.close_with-closed.ensures.slots.0 in
    let slots = c.self.invariant.2 in absurd (omega arith)

pub returns : goal.returns
returns g c =
    let plan_is = c.self.invariant.1 ∙ ap (λ s. s.plan) c.self.view_is in
    let seen = ap (λ m. m.0) c.keeper.invariant.1 in
    let own = c.keeper.inside in
    let given = ap (λ k. k.given) c.keeper.view_is in
    let joined = ap (λ k. k.joined) c.keeper.view_is in
    let plan = ap (λ k. k.plan) c.keeper.view_is ∙ c.requires.table.1 in
    let kept = close_kept c.self.inside.table.key c.args.self.plan g.F.Fold.UNIT g.F.Fold.CAP
    g.F.Fold.join plan_is own.seat.id own.seat.me.0
    (slots_items c.close_with-closed.result.words)
    (slots_items c.close_with-closed.result.slots) own.plan.levels own.given
    (tracks_of own.seat.me.0) seen (ap length joined ∙ (c.requires.joined ∙ sym given))
    c.close_with-closed.ensures.rule in
    if_ok (λ w. w.items ≡ slots_items c.close_with-closed.result.words)
    (λ w. IsKept c.args.self.plan g.F.Fold.UNIT g.F.Fold.CAP g.F.Fold.join w.items
    (Keeper c.args.self.plan.levels c.args.keeper.given c.args.keeper.joined ∷ []))
    c.words_of-words.result
    (λ w items. subst (λ (z : List ℕ × View).
    IsKept c.args.self.plan g.F.Fold.UNIT g.F.Fold.CAP g.F.Fold.join z.0 (z.1 ∷ []))
    (λ i. (sym items i, (seen ∙ (λ j. Keeper (plan j).levels (given j) (joined j))) i)) kept)
    c.words_of-words.ensures
