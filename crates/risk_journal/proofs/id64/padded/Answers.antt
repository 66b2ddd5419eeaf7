use Rattle.std.proofs.Common.{◌++◌, ap, ◌∙◌}
use Rattle.std.proofs.lemmas.List.{drop-replicate}
use Rattle.risk_journal.proofs.id64.padded.Goals as goal

pub returns : goal.returns
returns c = c.write_front.ensures ∙ ap (λ s. c.args.text.now ++ s) (drop-replicate _ _ _)
