-- the trees end with the last
use Rattle.std.proofs.Common.{◌≡◌, ◌+◌, ◌∙◌, List, ℕ, sym, subst, ap, length, map}
use Rattle.risk_journal.specs.declared.acts.Act.{Act}
use Rattle.risk_board.specs.declared.hand.Line.{Line}
use Rattle.journal_check.specs.Buckets.{tree_value, AreByTree}
use Rattle.journal_check.specs.LineFaults.{EndsBefore}
use Rattle.journal_check.specs.declared.tree_acts.TreeActs.{TreeActs}
use Rattle.journal_check.proofs.Kept.{kept}
use Rattle.journal_check.proofs.NoneAbove.{ends_of_near}
use Rattle.journal_check.proofs.tree_faults.first_tree_fault.Goals as goal

count : (c : goal.After-deref-2) → length c.deref-2.result.now ≡ c.args.last + 1
count c = ap length c.deref-2.ensures.value ∙ c.in_ok-trees.ensures.count

pub fault_in-requires-clause-near : goal.fault_in-requires-clause-near
fault_in-requires-clause-near c =
    let acts : List (List Act) = kept c.args.journal.now.acts.items in
    let lines : List (List Line) = kept c.args.journal.now.lines.items in
    subst (λ (n : ℕ). EndsBefore n acts lines) (sym (count c))
    (ends_of_near c.args.last acts lines c.requires.near)

pub fault_in-requires-clause-trees : goal.fault_in-requires-clause-trees
fault_in-requires-clause-trees c =
    let acts : List (List Act) = kept c.args.journal.now.acts.items in
    subst (λ (n : ℕ). AreByTree n acts (map tree_value c.deref-2.result.now)) (sym (count c))
    (subst (λ (t : List TreeActs). AreByTree (c.args.last + 1) acts (map tree_value t))
    (sym c.deref-2.ensures.value)
    (subst (λ a. AreByTree (c.args.last + 1) (kept a) (map tree_value c.in_ok-trees.trees.items))
    c.deref.ensures.value c.in_ok-trees.ensures.each))

pub returns-clause-found : goal.returns-clause-found
returns-clause-found c =
    c.fault_in.ensures.found c.args.last
    (ap length c.deref-2.ensures.value ∙ c.in_ok-trees.ensures.count)

pub returns-clause-none : goal.returns-clause-none
returns-clause-none c =
    c.fault_in.ensures.none c.args.last
    (ap length c.deref-2.ensures.value ∙ c.in_ok-trees.ensures.count)
