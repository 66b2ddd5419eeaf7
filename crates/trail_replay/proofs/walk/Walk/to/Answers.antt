use Rattle.std.proofs.Common.{◌≡◌, ◌-◌, List, length, take, drop, ap, sym, ◌∙◌, subst, arith}
use Rattle.std.specs.Prelude.{All}
use Rattle.std.proofs.lemmas.List.Elements.{All-from_recursion}
use Rattle.fold_law.specs.declared.limits.TheConstants.{SESSIONS}
use Rattle.fold_law.specs.Whole.{whole_of}
use Rattle.risk_board.specs.declared.hand.Line.{Line}
use Rattle.risk_board.specs.History.{array_after}
use Rattle.trail_replay.specs.Arrays.{WalkValue, IsWholeAt, whole_at, after_lines}
use Rattle.trail_replay.proofs.WalkLaws.{after-more, all_under, whole-fewer}
use Rattle.trail_replay.proofs.walk.Walk.to.Goals as goal

pub whole-requires-clause-leaves : goal.whole-requires-clause-leaves
whole-requires-clause-leaves g c =
    let lines = c.self.inside.lines.now in
    let from = c.self.inside.place in
    let unit = g.F.Fold.UNIT in
    let stands : from ≡ c.args.self.now.place = ap (λ (w : WalkValue). w.place) c.self.view_is in
    let now : c.set_lines.new.leaves ≡ array_after unit SESSIONS (take c.args.place lines) =
    c.set_lines.ensures
    ∙ (ap (λ a. after_lines a (take (c.args.place - from) (drop from lines)))
    c.self.invariant.array
    ∙ after-more unit SESSIONS from c.args.place lines (omega (arith, c.requires.after))) in
    subst (All (g.F.Fold.under 1)) (sym now)
    (All-from_recursion (g.F.Fold.under 1) _
    (all_under unit g.F.Fold.CAP g.F.Fold.join g.F.Fold.le g.F.Fold.under g.met.F.Fold.laws lines
    c.self.invariant.are SESSIONS c.args.place))

pub invariant_of-self : goal.invariant_of-self
invariant_of-self g c =
    let lines = c.self.inside.lines.now in
    let from = c.self.inside.place in
    let unit = g.F.Fold.UNIT in
    let stands : from ≡ c.args.self.now.place = ap (λ (w : WalkValue). w.place) c.self.view_is in
    let all : lines ≡ c.args.self.now.lines = ap (λ (w : WalkValue). w.lines) c.self.view_is in
    let long = ap (λ (s : List Line). length s) all in
    record {
      within = omega (arith, c.requires.within);
      array = c.set_lines.ensures
          ∙ (ap (λ a. after_lines a (take (c.args.place - from) (drop from lines)))
          c.self.invariant.array
          ∙ after-more unit SESSIONS from c.args.place lines (omega (arith, c.requires.after)));
      are = c.self.invariant.are;
    }

pub returns-clause-value : goal.returns-clause-value
returns-clause-value g c =
    let lines = c.self.inside.lines.now in
    let from = c.self.inside.place in
    let unit = g.F.Fold.UNIT in
    let stands : from ≡ c.args.self.now.place = ap (λ (w : WalkValue). w.place) c.self.view_is in
    let all : lines ≡ c.args.self.now.lines = ap (λ (w : WalkValue). w.lines) c.self.view_is in
    c.whole.ensures
    ∙ (ap (whole_of g.F.Fold.join unit) (c.set_lines.ensures
    ∙ (ap (λ a. after_lines a (take (c.args.place - from) (drop from lines)))
    c.self.invariant.array
    ∙ after-more unit SESSIONS from c.args.place lines (omega (arith, c.requires.after))))
    ∙ ap (λ s. whole_at g.F.Fold.join unit s c.args.place) all)

pub returns-clause-whole : goal.returns-clause-whole
returns-clause-whole g c =
    let lines = c.self.inside.lines.now in
    let unit = g.F.Fold.UNIT in
    let all : lines ≡ c.args.self.now.lines = ap (λ (w : WalkValue). w.lines) c.self.view_is in
    let is = returns-clause-value g c
    ∙ ap (λ s. whole_at g.F.Fold.join unit s c.args.place) (sym all) in
    let fewer = whole-fewer unit g.F.Fold.CAP g.F.Fold.join g.F.Fold.le g.F.Fold.under
    g.met.F.Fold.laws lines c.self.invariant.are c.args.place in
    subst (λ (s : List Line). IsWholeAt g.F.Fold.join unit s c.args.place c.whole.result) all
    (λ components few sessions. is ∙ fewer components few sessions)
