-- none of the acts so far has the fault
use Rattle.std.proofs.Common.{◌≡◌, ℕ, ◌<◌}
use Rattle.std.specs.Prelude.{slice_get, Some}
use Rattle.risk_journal.specs.declared.acts.Act.{Act}
use Rattle.journal_check.specs.ActFaults.{Has}
use Rattle.journal_check.proofs.act_rows.first_of.Given as goal

abbrev pub invariant-loop-index : goal.invariant-loop-index
invariant-loop-index l =
    (index : ℕ) (item : Act) → index < l.index → slice_get l.acts index ≡ Some item
    → ¬ Has l.fault item
