-- a fault of the rows alone, or what the sessions and the trees say
use Rattle.std.proofs.Common.{◌≡◌, ℕ, subst, length, map, arith}
use Rattle.std.proofs.lemmas.List.{length-map}
use Rattle.limit_table.specs.Trees.{halt_tree}
use Rattle.risk_journal.specs.SparseTrees.{expand_from}
use Rattle.journal_check.specs.RowFaults.{IsRowFault, HasNoRowFault}
use Rattle.journal_check.proofs.KindOrder.{row_first, no_yes}
use Rattle.journal_check.proofs.Kept.{kept}
use Rattle.journal_check.proofs.Sources.{itself_back}
use Rattle.journal_check.proofs.judging.judge.Goals as goal

pub returns-in-Some-clause-answer : goal.returns-in-Some-clause-answer
returns-in-Some-clause-answer g c =
    let acts = kept c.args.told.acts.items in
    let lines = expand_from 0 c.args.told.trees.items in
    let left = map g.S.Source.left c.args.sources.items in
    let ok = c.args.sources.ok in
    let count : c.len.result ≡ length left =
    omega (arith, c.len.ensures, length-map c.args.sources.items g.S.Source.left) in
    rw c.answered.ensures.answer
    (record {
      yes = λ is. absurd (no_yes _ is);
      worth = λ is. absurd (no_yes _ is);
      no = λ need text. row_first c.args.limits.now text left (map g.K.SessionScreens.meaning c.args.screens.items) acts lines c.in-Some.fault
          (subst (λ (n : ℕ). IsRowFault n (halt_tree c.args.limits.now) acts lines c.in-Some.fault) count
          (subst (λ (t : ℕ). IsRowFault c.len.result t acts lines c.in-Some.fault) c.halt_tree.ensures.tree
          c.in-Some.ensures.found));
    })

pub returns-in-Some-clause-back : goal.returns-in-Some-clause-back
returns-in-Some-clause-back g c =
    rw c.answered.ensures.sources (itself_back g.S.Source.faults g.S.Source.name c.args.sources.items)

pub judge_near-requires-clause-rows : goal.judge_near-requires-clause-rows
judge_near-requires-clause-rows g c =
    let acts = kept c.args.told.acts.items in
    let lines = expand_from 0 c.args.told.trees.items in
    let ok = c.args.sources.ok in
    let count : c.len.result ≡ length c.args.sources.items = omega (arith, c.len.ensures) in
    subst (λ (n : ℕ). HasNoRowFault n (halt_tree c.args.limits.now) acts lines) count
    (subst (λ (t : ℕ). HasNoRowFault c.len.result t acts lines) c.halt_tree.ensures.tree
    (c.first_row_fault.ensures.none c.in-None.is))

pub returns-in-None-clause-read_fault : goal.returns-in-None-clause-read_fault
returns-in-None-clause-read_fault g c = λ is.
    let acts = kept c.args.told.acts.items in
    let lines = expand_from 0 c.args.told.trees.items in
    let ok = c.args.sources.ok in
    let count : c.len.result ≡ length c.args.sources.items = omega (arith, c.len.ensures) in
    record {
      rows = subst (λ (n : ℕ). HasNoRowFault n (halt_tree c.args.limits.now) acts lines) count
          (subst (λ (t : ℕ). HasNoRowFault c.len.result t acts lines) c.halt_tree.ensures.tree
          (c.first_row_fault.ensures.none c.in-None.is));
      behind = c.judge_near.ensures.read_fault is;
    }
