-- What posts nothing in the halt tree.
use Rattle.std.specs.Prelude.{◌≡◌, List}
use Rattle.risk_journal.specs.declared.acts.Act.{Act}
use Rattle.risk_journal.specs.ActLists.{posts_in}
use Rattle.limit_table.specs.Trees.{LimitsValue, halt_tree}

-- the acts after have as many posts in the halt tree as those before
abbrev pub KeepsHalt : LimitsValue → List Act → List Act → Type 0
KeepsHalt limits acts after =
    posts_in (halt_tree limits) after ≡ posts_in (halt_tree limits) acts
