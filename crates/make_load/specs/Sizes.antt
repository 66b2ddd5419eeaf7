-- The bounds of what is drawn.
use Rattle.std.specs.Prelude.{◌≤◌, ◌<◌}
use Rattle.make_load.specs.declared.draws.Draws.{Draws}

-- each number that is drawn is within its range
pub record AreSmall (d : Draws) : Type 0 where
  pub account : d.account < 4
  pub symbol : d.symbol < 8
  pub side : d.side ≤ 2
  pub quantity : d.quantity ≤ 50
  pub price : d.price ≤ 90
