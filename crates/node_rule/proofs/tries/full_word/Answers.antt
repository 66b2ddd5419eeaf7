use Rattle.std.proofs.Common.{ℕ, ◌<◌, ◌^◌, ◌+◌, sym, subst}
use Rattle.fold_law.specs.declared.limits.TheConstants.{VALUES}
use Rattle.stamp_word.specs.Word.{value_in}
use Rattle.node_rule.proofs.OnWay.{few_leaves, some_has}
use Rattle.node_rule.proofs.tries.full_word.Goals as goal

pub join-joined-requires : goal.join-joined-requires
join-joined-requires g c =
    let leaves : ℕ = 2 ^ c.args.x.now.height in
    let under = g.F.Fold.under in (
      leaves,
      leaves,
      few_leaves c.args.x.now.height c.requires.low,
      subst (under leaves) (sym c.value_of.ensures.value)
          (some_has (λ (w : ℕ). under leaves (value_in w)) c.args.tried.now.left c.in-Some.left
          c.in-Some.is c.requires.bounded.left),
      subst (under leaves) (sym c.value_of-2.ensures.value)
          (some_has (λ (w : ℕ). under leaves (value_in w)) c.args.tried.now.right
          c.in-Some-right.right c.in-Some-right.is c.requires.bounded.right),
    )

pub pack-requires-clause-value : goal.pack-requires-clause-value
pack-requires-clause-value g c =
    let leaves : ℕ = 2 ^ c.args.x.now.height in
    let under = g.F.Fold.under in
    let laws = g.met.F.Fold.laws in
    let few = few_leaves c.args.x.now.height c.requires.low in
    let l = subst (under leaves) (sym c.value_of.ensures.value)
    (some_has (λ (w : ℕ). under leaves (value_in w)) c.args.tried.now.left c.in-Some.left
    c.in-Some.is c.requires.bounded.left) in
    let r = subst (under leaves) (sym c.value_of-2.ensures.value)
    (some_has (λ (w : ℕ). under leaves (value_in w)) c.args.tried.now.right
    c.in-Some-right.right c.in-Some-right.is c.requires.bounded.right) in
    subst (λ (n : ℕ). n < VALUES) (sym c.join-joined.ensures)
    (laws.under_values (leaves + leaves) _ few
    (laws.join_under leaves leaves c.value_of.result c.value_of-2.result few l r))
