-- The generator of a session, and what is drawn for an order.
use Rattle.std.specs.Prelude.{ℕ, ◌+◌, ◌*◌, ◌/◌, ◌%◌, ◌^◌}
use Rattle.std.specs.Prelude.{◌==◌, if◌then◌else◌}
use Rattle.make_load.specs.declared.draws.Draws.{Draws}
use Rattle.make_load.specs.declared.draws.Fate.{Fate}
use Rattle.make_load.specs.declared.draws.Fate.TheVariants as fate

-- the generator of a session begins with a number of the load's and the session's
abbrev pub first_state : ℕ → ℕ → ℕ
first_state number session = number * 64 + session

-- one step of the generator
abbrev pub next_state : ℕ → ℕ
next_state x = (x * 6364136223846793005 + 1442695040888963407) % 2 ^ 64

-- what a draw below a number gives, once the step was made
abbrev pub drawn : ℕ → ℕ → ℕ
drawn x below = x / 2 ^ 33 % below

-- what a draw below 4 makes of an order
abbrev pub fate_of : ℕ → Fate
fate_of e = if e == 0 then fate.Filled else (if e == 1 then fate.Canceled else fate.Left)

-- the six draws for an order, each by one step more
abbrev pub draws_from : ℕ → Draws
draws_from x =
    let a = next_state x in
    let y = next_state a in
    let b = next_state y in
    let q = next_state b in
    let p = next_state q in
    let e = next_state p in
    record {
      account = drawn a 4;
      symbol = drawn y 8;
      side = drawn b 2 + 1;
      quantity = drawn q 50 + 1;
      price = drawn p 90 + 1;
      fate = fate_of (drawn e 4);
      state = e;
    }
