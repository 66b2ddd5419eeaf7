-- the first line, or else the first read
use Rattle.std.proofs.Common.{subst, refl, inl, inr}
use Rattle.std.specs.Prelude.{IfSome, Option}
use Rattle.journal_check.specs.LineFaults.{IsLineFault}
use Rattle.journal_check.specs.TreeFaults.{IsReadsFault, IsTreeFault}
use Rattle.journal_check.specs.declared.judging.CheckFault.{CheckFault}
use Rattle.journal_check.proofs.Cases.{if_some_more, if_ok_more}
use Rattle.journal_check.proofs.Kept.{kept}
use Rattle.journal_check.proofs.tree_faults.fault_in.Goals as goal

pub returns-in-Some-clause-found : goal.returns-in-Some-clause-found
returns-in-Some-clause-found c = λ last is. inl (record {
  kind_is = refl;
  first = subst (λ o. IfSome o (IsLineFault (kept c.args.journal.now.acts.items)
      (kept c.args.journal.now.lines.items))) c.in-Some.is c.in_ok-row.ensures.found;
})

pub read_fault-requires-clause-right : goal.read_fault-requires-clause-right
read_fault-requires-clause-right c = c.in_ok-row.ensures.none c.in-None.is

pub returns-in-None-clause-found : goal.returns-in-None-clause-found
returns-in-None-clause-found c = λ last is.
    let acts = kept c.args.journal.now.acts.items in
    let lines = kept c.args.journal.now.lines.items in
    if_ok_more (λ (o : Option CheckFault). IfSome o (IsReadsFault last acts lines))
    (λ (o : Option CheckFault). IfSome o (IsTreeFault last acts lines)) c.read_fault.result
    (λ o. if_some_more (IsReadsFault last acts lines) (IsTreeFault last acts lines) o
    (λ fault is. inr is))
    (c.read_fault.ensures.found last is)
