-- the first read, as a fault
use Rattle.std.proofs.Common.{subst, refl}
use Rattle.std.specs.Prelude.{IfSome}
use Rattle.journal_check.specs.Firsts.{IsFirstRow}
use Rattle.journal_check.specs.ReadFaults.{IsWrongRead}
use Rattle.journal_check.proofs.Kept.{kept}
use Rattle.journal_check.proofs.tree_faults.read_fault.Goals as goal

pub returns-in-Some-clause-found : goal.returns-in-Some-clause-found
returns-in-Some-clause-found c = λ last is. record {
  kind_is = refl;
  right = c.requires.right;
  first = subst (λ o. IfSome o (IsFirstRow (IsWrongRead last (kept c.args.journal.now.acts.items)
      (kept c.args.journal.now.lines.items)))) c.in-Some.is (c.in_ok-row.ensures.found last is);
}

pub returns-in-None-clause-none : goal.returns-in-None-clause-none
returns-in-None-clause-none c = λ last is none. record {
  right = c.requires.right;
  reads = c.in_ok-row.ensures.none last is c.in-None.is;
}
