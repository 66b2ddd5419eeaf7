-- all trees are told
use Rattle.std.proofs.Common.{◌≡◌, ◌∙◌, ap, sym, subst, length, map, replicate, take, drop, ◌++◌, List, arith}
use Rattle.std.proofs.lemmas.List.{take_at, length-map}
use Rattle.journal_check.specs.Buckets.{tree_value, empty_tree, with_sessions, AreByTree}
use Rattle.journal_check.specs.declared.tree_acts.TreeActs.{TreeActs}
use Rattle.journal_check.proofs.Filled.{all_told, told_count}
use Rattle.journal_check.proofs.Kept.{kept, kept_count}
use Rattle.journal_check.proofs.tree_acts.acts_by_tree.Goals as goal

back : (c : goal.In_ok-add_sessions)
    → take c.in_ok-all.all.len (c.add_sessions.new.trees
    ++ drop (length c.add_sessions.new.trees) c.in_ok-all.all.items) ≡ c.add_sessions.new.trees
back c =
    let ok = c.in_ok-all.all.ok in
    let value = ap length c.deref_mut.ensures.value in
    take_at c.add_sessions.new.trees (drop (length c.add_sessions.new.trees) c.in_ok-all.all.items)
    c.in_ok-all.all.len (omega (arith, c.add_sessions.auto.trees, value))

told : (c : goal.In_ok-add_sessions)
    → map tree_value c.add_sessions.new.trees
    ≡ with_sessions 0 2 (replicate c.args.trees (empty_tree (length (kept c.args.acts.now))))
    (kept c.args.acts.now)
told c =
    c.in_ok-add_sessions.ensures
    ∙ ap (λ t. with_sessions 0 2 t (kept c.args.acts.now))
    (ap (map tree_value) c.deref_mut.ensures.value ∙ c.in_ok-all.ensures
    ∙ ap (λ n. replicate c.args.trees (empty_tree n)) (sym (kept_count c.args.acts.now)))

pub returns-clause-count : goal.returns-clause-count
returns-clause-count c =
    ap length (back c) ∙ sym (length-map c.add_sessions.new.trees tree_value)
    ∙ ap length (told c) ∙ told_count c.args.trees (kept c.args.acts.now)

pub returns-clause-each : goal.returns-clause-each
returns-clause-each c =
    subst (λ (t : List TreeActs). AreByTree c.args.trees (kept c.args.acts.now) (map tree_value t))
    (sym (back c))
    (subst (AreByTree c.args.trees (kept c.args.acts.now)) (sym (told c))
    (all_told c.args.trees (kept c.args.acts.now)))
