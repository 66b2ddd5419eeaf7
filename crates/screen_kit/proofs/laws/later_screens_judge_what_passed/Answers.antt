use Rattle.screen_kit.proofs.Folds.{later_judge_what_passed}
use Rattle.screen_kit.proofs.laws.later_screens_judge_what_passed.Goals as goal

pub returns : goal.returns
returns c = later_judge_what_passed
