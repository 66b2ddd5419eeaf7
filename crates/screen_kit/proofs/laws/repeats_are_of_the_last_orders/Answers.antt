use Rattle.screen_kit.proofs.Repeats.{tells_repeats}
use Rattle.screen_kit.proofs.laws.repeats_are_of_the_last_orders.Goals as goal

pub returns : goal.returns
returns c = tells_repeats
