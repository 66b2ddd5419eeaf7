-- the rows of the acts so far
use Rattle.std.proofs.Common.{◌≡◌, ◌++◌, take}
use Rattle.std.specs.List.{flat_map}
use Rattle.risk_journal.specs.JournalText.{act_text}
use Rattle.risk_journal.proofs.journal.add_acts.Given as goal

abbrev pub invariant-loop-act : goal.invariant-loop-act
invariant-loop-act l =
    l.text.items ≡ l.initial.text.items ++ flat_map (act_text l.session) (take l.act-index l.acts)
