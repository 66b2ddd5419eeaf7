use Rattle.screen_kit.proofs.Folds.{code_is_fold}
use Rattle.screen_kit.proofs.laws.code_is_a_fold.Goals as goal

pub returns : goal.returns
returns c = code_is_fold
