use Rattle.std.proofs.Common.{ℕ, ◌+◌, get_or, subst, sym, ap, ◌∙◌, arith}
use Rattle.std.proofs.lemmas.List.Sums.{fold_more}
use Rattle.std.proofs.lemmas.List.Elements.{All-get_or}
use Rattle.fold_law.proofs.fold.whole.Goals as goal

-- the leaves so far and one more are no more than the sessions
pub join-joined-requires : goal.join-joined-requires
join-joined-requires g c =
    let i = c.loop-leaf.leaf-index in
    let inside = c.loop-leaf-test.true in
    let leaf = All-get_or (g.F.Fold.under 1) c.args.leaves.now i 0 inside c.requires.leaves in
    (i, 1, omega (arith, c.requires.few), c.loop-leaf.invariant.under, leaf)

pub loop-leaf-preserved : goal.loop-leaf-preserved
loop-leaf-preserved g c =
    let i = c.loop-leaf.leaf-index in
    let xs = c.args.leaves.now in
    let join = g.F.Fold.join in
    let under = g.F.Fold.under in
    let laws = g.met.F.Fold.laws in
    let x = get_or xs i 0 in
    let inside = c.loop-leaf-test.true in
    let leaf = All-get_or (under 1) xs i 0 inside c.requires.leaves in
    record {
      so_far = c.join-joined.ensures
          ∙ (ap (λ (n : ℕ). join n x) c.loop-leaf.invariant.so_far
          ∙ sym (fold_more join g.F.Fold.UNIT xs i 0 inside));
      under = subst (under (i + 1)) (sym c.join-joined.ensures)
          (laws.join_under i 1 c.loop-leaf.joined x (omega arith) c.loop-leaf.invariant.under leaf);
    }
