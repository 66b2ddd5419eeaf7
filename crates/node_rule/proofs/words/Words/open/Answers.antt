use Rattle.std.proofs.Common.{◌≡◌, ℕ, List, [], ◌∷◌, ◌*◌, ◌^◌, ◌%◌, ◌≤◌, lit<, replicate, sym, subst, ◌∙◌, arith}
use Rattle.stamp_word.specs.declared.limits.TheConstants.{LEVELS}
use Rattle.std.proofs.Math.Nat.{pow-le-pow_right}
use Rattle.node_rule.specs.declared.view.Plan.{Plan}
use Rattle.node_rule.specs.declared.view.View.TheVariants.{Keeper}
use Rattle.node_rule.specs.StampPart.{IsPlan}
use Rattle.node_rule.specs.ValuePart.{IsKept}
use Rattle.node_rule.proofs.Opening.{opens}
use Rattle.node_rule.proofs.words.Words.open.Goals as goal

pub of_words-requires : goal.of_words-requires
of_words-requires g c =
    let plan : Plan = record {
      levels = c.args.shape.levels;
      trees = c.args.shape.trees;
      sessions =
          c.args.sessions;
      quota = c.args.quota;
    } in
    let planned : IsPlan plan = record {
      shape = c.args.shape.within;
      sessions =
          c.requires.shape.enough;
      few = c.requires.sessions.1;
      quota = c.requires.quota.1;
    } in
    let few : 2 ^ plan.levels ≤ 2 ^ LEVELS = pow-le-pow_right (lit< tt) planned.shape.0 in
    let fits : (2 * 2 ^ plan.levels) % 18446744073709551616 ≡ 2 * 2 ^ plan.levels = omega arith in
    let made = c.in-Ok.ensures.items_if_clones_equal (λ y e. e) in
    let words : c.as_slice.result.now ≡ replicate
    (plan.trees * (2 * 2 ^ plan.levels)) g.F.Fold.UNIT = c.as_slice.ensures.value
    ∙ (made ∙ (λ i. replicate (plan.trees * fits i) (c.UNIT.ensures i))) in
    record {
      rule = subst (λ (ws : List ℕ). IsKept plan g.F.Fold.UNIT g.F.Fold.CAP g.F.Fold.join ws
          (Keeper plan.levels 0 [] ∷ [])) (sym words)
          (opens plan g.F.Fold.UNIT g.F.Fold.CAP g.F.Fold.join g.F.Fold.le g.F.Fold.under
          g.met.F.Fold.laws planned);
    }
