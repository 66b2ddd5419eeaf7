-- The fields of each message behind its type, as they are kept before they are spelled.
use Rattle.std.proofs.Common.{◌≡◌, ℕ, ◌^◌, ◌<◌, ◌≤◌, List, [], ◌∷◌, refl, arith}
use Rattle.std.specs.List.{AllByRecursion}
use Rattle.std.specs.Fmt.{digits}
use Rattle.make_load.specs.declared.draws.Draws.{Draws}
use Rattle.make_load.specs.declared.part.Part.{Part}
use Rattle.make_load.specs.declared.part.Value.{Value}
use Rattle.make_load.specs.declared.part.Value.TheVariants as value
use Rattle.make_load.specs.Patterns.{new_order, taken, filled, cancel, canceled}
use Rattle.make_load.specs.Sizes.{AreSmall}
use Rattle.make_load.specs.Values.{IsSpelled, IsPart, message_of}

abbrev pub part_of : ℕ → Value → Part
part_of tag v = record { 0 = tag; 1 = v }

is_part : (tag : ℕ) (v : Value) → 1 ≤ tag → tag ≤ 999 → IsSpelled v → IsPart (part_of tag v)
is_part tag v least most spelled = record { least = least; most = most; spelled = spelled }

-- what is drawn can be spelled
pub record CanBeSpelled (d : Draws) : Type 0 where
  pub account : d.account < 2 ^ 32
  pub symbol : d.symbol < 2 ^ 32
  pub side : d.side < 2 ^ 32
  pub quantity : d.quantity < 2 ^ 32
  pub price : d.price < 2 ^ 32

pub small_is_spelled : (d : Draws) → AreSmall d → CanBeSpelled d
small_is_spelled d small = record {
  account = omega (arith, small.account);
  symbol = omega (arith, small.symbol);
  side = omega (arith, small.side);
  quantity = omega (arith, small.quantity);
  price = omega (arith, small.price);
}

abbrev pub new_order_parts : ℕ → ℕ → ℕ → Draws → List Part
new_order_parts session order number d =
    part_of 49 (value.Client session)
    ∷ part_of 56 value.Gate
    ∷ part_of 34 (value.Number number)
    ∷ part_of 52 value.Time
    ∷ part_of 11 (value.OrderId session order)
    ∷ part_of 1 (value.Account d.account)
    ∷ part_of 55 (value.Symbol d.symbol)
    ∷ part_of 54 (value.Number d.side)
    ∷ part_of 38 (value.Number d.quantity)
    ∷ part_of 40 (value.Number 2)
    ∷ part_of 44 (value.Price d.price)
    ∷ part_of 60 value.Time ∷ []

pub new_order_is : (session order number : ℕ) (d : Draws)
    → message_of 68 (new_order_parts session order number d) ≡ new_order session order number d
unfolding digits
new_order_is session order number d = refl

pub new_order_each : (session order number : ℕ) (d : Draws) → session < 100 → order < 2 ^ 32
    → number < 2 ^ 32 → CanBeSpelled d
    → AllByRecursion IsPart (new_order_parts session order number d)
new_order_each session order number d low order_fits number_fits fits = (
  is_part 49 _ (omega arith) (omega arith) low,
  (
    is_part 56 _ (omega arith) (omega arith) tt,
    (
      is_part 34 _ (omega arith) (omega arith) number_fits,
      (
        is_part 52 _ (omega arith) (omega arith) tt,
        (
          is_part 11 _ (omega arith) (omega arith) (low, order_fits),
          (
            is_part 1 _ (omega arith) (omega arith) fits.account,
            (
              is_part 55 _ (omega arith) (omega arith) fits.symbol,
              (
                is_part 54 _ (omega arith) (omega arith) fits.side,
                (
                  is_part 38 _ (omega arith) (omega arith) fits.quantity,
                  (
                    is_part 40 _ (omega arith) (omega arith) (omega arith),
                    (
                      is_part 44 _ (omega arith) (omega arith) fits.price,
                      (
                        is_part 60 _ (omega arith) (omega arith) tt,
                        tt,
                      ),
                    ),
                  ),
                ),
              ),
            ),
          ),
        ),
      ),
    ),
  ),
)

abbrev pub taken_parts : ℕ → ℕ → ℕ → Draws → List Part
taken_parts session order number d =
    part_of 49 value.Venue
    ∷ part_of 56 value.Gate
    ∷ part_of 34 (value.Number number)
    ∷ part_of 52 value.Time
    ∷ part_of 37 (value.OrderNumber order)
    ∷ part_of 11 (value.OrderId session order)
    ∷ part_of 17 (value.Execution number)
    ∷ part_of 150 (value.Number 0)
    ∷ part_of 39 (value.Number 0)
    ∷ part_of 55 (value.Symbol d.symbol)
    ∷ part_of 54 (value.Number d.side)
    ∷ part_of 38 (value.Number d.quantity)
    ∷ part_of 151 (value.Number d.quantity)
    ∷ part_of 14 (value.Number 0)
    ∷ part_of 6 (value.Number 0) ∷ []

pub taken_is : (session order number : ℕ) (d : Draws)
    → message_of 56 (taken_parts session order number d) ≡ taken session order number d
unfolding digits
taken_is session order number d = refl

pub taken_each : (session order number : ℕ) (d : Draws) → session < 100 → order < 2 ^ 32
    → number < 2 ^ 32 → CanBeSpelled d
    → AllByRecursion IsPart (taken_parts session order number d)
taken_each session order number d low order_fits number_fits fits = (
  is_part 49 _ (omega arith) (omega arith) tt,
  (
    is_part 56 _ (omega arith) (omega arith) tt,
    (
      is_part 34 _ (omega arith) (omega arith) number_fits,
      (
        is_part 52 _ (omega arith) (omega arith) tt,
        (
          is_part 37 _ (omega arith) (omega arith) order_fits,
          (
            is_part 11 _ (omega arith) (omega arith) (low, order_fits),
            (
              is_part 17 _ (omega arith) (omega arith) number_fits,
              (
                is_part 150 _ (omega arith) (omega arith) (omega arith),
                (
                  is_part 39 _ (omega arith) (omega arith) (omega arith),
                  (
                    is_part 55 _ (omega arith) (omega arith) fits.symbol,
                    (
                      is_part 54 _ (omega arith) (omega arith) fits.side,
                      (
                        is_part 38 _ (omega arith) (omega arith) fits.quantity,
                        (
                          is_part 151 _ (omega arith) (omega arith) fits.quantity,
                          (
                            is_part 14 _ (omega arith) (omega arith) (omega arith),
                            (
                              is_part 6 _ (omega arith) (omega arith) (omega arith),
                              tt,
                            ),
                          ),
                        ),
                      ),
                    ),
                  ),
                ),
              ),
            ),
          ),
        ),
      ),
    ),
  ),
)

abbrev pub filled_parts : ℕ → ℕ → ℕ → Draws → List Part
filled_parts session order number d =
    part_of 49 value.Venue
    ∷ part_of 56 value.Gate
    ∷ part_of 34 (value.Number number)
    ∷ part_of 52 value.Time
    ∷ part_of 37 (value.OrderNumber order)
    ∷ part_of 11 (value.OrderId session order)
    ∷ part_of 17 (value.Execution number)
    ∷ part_of 150 value.Trade
    ∷ part_of 39 (value.Number 2)
    ∷ part_of 55 (value.Symbol d.symbol)
    ∷ part_of 54 (value.Number d.side)
    ∷ part_of 38 (value.Number d.quantity)
    ∷ part_of 32 (value.Number d.quantity)
    ∷ part_of 31 (value.Price d.price)
    ∷ part_of 151 (value.Number 0)
    ∷ part_of 14 (value.Number d.quantity)
    ∷ part_of 6 (value.Price d.price) ∷ []

pub filled_is : (session order number : ℕ) (d : Draws)
    → message_of 56 (filled_parts session order number d) ≡ filled session order number d
unfolding digits
filled_is session order number d = refl

pub filled_each : (session order number : ℕ) (d : Draws) → session < 100 → order < 2 ^ 32
    → number < 2 ^ 32 → CanBeSpelled d
    → AllByRecursion IsPart (filled_parts session order number d)
filled_each session order number d low order_fits number_fits fits = (
  is_part 49 _ (omega arith) (omega arith) tt,
  (
    is_part 56 _ (omega arith) (omega arith) tt,
    (
      is_part 34 _ (omega arith) (omega arith) number_fits,
      (
        is_part 52 _ (omega arith) (omega arith) tt,
        (
          is_part 37 _ (omega arith) (omega arith) order_fits,
          (
            is_part 11 _ (omega arith) (omega arith) (low, order_fits),
            (
              is_part 17 _ (omega arith) (omega arith) number_fits,
              (
                is_part 150 _ (omega arith) (omega arith) tt,
                (
                  is_part 39 _ (omega arith) (omega arith) (omega arith),
                  (
                    is_part 55 _ (omega arith) (omega arith) fits.symbol,
                    (
                      is_part 54 _ (omega arith) (omega arith) fits.side,
                      (
                        is_part 38 _ (omega arith) (omega arith) fits.quantity,
                        (
                          is_part 32 _ (omega arith) (omega arith) fits.quantity,
                          (
                            is_part 31 _ (omega arith) (omega arith) fits.price,
                            (
                              is_part 151 _ (omega arith) (omega arith) (omega arith),
                              (
                                is_part 14 _ (omega arith) (omega arith) fits.quantity,
                                (
                                  is_part 6 _ (omega arith) (omega arith) fits.price,
                                  tt,
                                ),
                              ),
                            ),
                          ),
                        ),
                      ),
                    ),
                  ),
                ),
              ),
            ),
          ),
        ),
      ),
    ),
  ),
)

abbrev pub cancel_parts : ℕ → ℕ → ℕ → Draws → List Part
cancel_parts session order number d =
    part_of 49 (value.Client session)
    ∷ part_of 56 value.Gate
    ∷ part_of 34 (value.Number number)
    ∷ part_of 52 value.Time
    ∷ part_of 11 (value.CancelId session order)
    ∷ part_of 41 (value.OrderId session order)
    ∷ part_of 55 (value.Symbol d.symbol)
    ∷ part_of 54 (value.Number d.side)
    ∷ part_of 38 (value.Number d.quantity)
    ∷ part_of 60 value.Time ∷ []

pub cancel_is : (session order number : ℕ) (d : Draws)
    → message_of 70 (cancel_parts session order number d) ≡ cancel session order number d
unfolding digits
cancel_is session order number d = refl

pub cancel_each : (session order number : ℕ) (d : Draws) → session < 100 → order < 2 ^ 32
    → number < 2 ^ 32 → CanBeSpelled d
    → AllByRecursion IsPart (cancel_parts session order number d)
cancel_each session order number d low order_fits number_fits fits = (
  is_part 49 _ (omega arith) (omega arith) low,
  (
    is_part 56 _ (omega arith) (omega arith) tt,
    (
      is_part 34 _ (omega arith) (omega arith) number_fits,
      (
        is_part 52 _ (omega arith) (omega arith) tt,
        (
          is_part 11 _ (omega arith) (omega arith) (low, order_fits),
          (
            is_part 41 _ (omega arith) (omega arith) (low, order_fits),
            (
              is_part 55 _ (omega arith) (omega arith) fits.symbol,
              (
                is_part 54 _ (omega arith) (omega arith) fits.side,
                (
                  is_part 38 _ (omega arith) (omega arith) fits.quantity,
                  (
                    is_part 60 _ (omega arith) (omega arith) tt,
                    tt,
                  ),
                ),
              ),
            ),
          ),
        ),
      ),
    ),
  ),
)

abbrev pub canceled_parts : ℕ → ℕ → ℕ → Draws → List Part
canceled_parts session order number d =
    part_of 49 value.Venue
    ∷ part_of 56 value.Gate
    ∷ part_of 34 (value.Number number)
    ∷ part_of 52 value.Time
    ∷ part_of 37 (value.OrderNumber order)
    ∷ part_of 11 (value.CancelId session order)
    ∷ part_of 41 (value.OrderId session order)
    ∷ part_of 17 (value.Execution number)
    ∷ part_of 150 (value.Number 4)
    ∷ part_of 39 (value.Number 4)
    ∷ part_of 55 (value.Symbol d.symbol)
    ∷ part_of 54 (value.Number d.side)
    ∷ part_of 38 (value.Number d.quantity)
    ∷ part_of 151 (value.Number 0)
    ∷ part_of 14 (value.Number 0)
    ∷ part_of 6 (value.Number 0) ∷ []

pub canceled_is : (session order number : ℕ) (d : Draws)
    → message_of 56 (canceled_parts session order number d) ≡ canceled session order number d
unfolding digits
canceled_is session order number d = refl

pub canceled_each : (session order number : ℕ) (d : Draws) → session < 100 → order < 2 ^ 32
    → number < 2 ^ 32 → CanBeSpelled d
    → AllByRecursion IsPart (canceled_parts session order number d)
canceled_each session order number d low order_fits number_fits fits = (
  is_part 49 _ (omega arith) (omega arith) tt,
  (
    is_part 56 _ (omega arith) (omega arith) tt,
    (
      is_part 34 _ (omega arith) (omega arith) number_fits,
      (
        is_part 52 _ (omega arith) (omega arith) tt,
        (
          is_part 37 _ (omega arith) (omega arith) order_fits,
          (
            is_part 11 _ (omega arith) (omega arith) (low, order_fits),
            (
              is_part 41 _ (omega arith) (omega arith) (low, order_fits),
              (
                is_part 17 _ (omega arith) (omega arith) number_fits,
                (
                  is_part 150 _ (omega arith) (omega arith) (omega arith),
                  (
                    is_part 39 _ (omega arith) (omega arith) (omega arith),
                    (
                      is_part 55 _ (omega arith) (omega arith) fits.symbol,
                      (
                        is_part 54 _ (omega arith) (omega arith) fits.side,
                        (
                          is_part 38 _ (omega arith) (omega arith) fits.quantity,
                          (
                            is_part 151 _ (omega arith) (omega arith) (omega arith),
                            (
                              is_part 14 _ (omega arith) (omega arith) (omega arith),
                              (
                                is_part 6 _ (omega arith) (omega arith) (omega arith),
                                tt,
                              ),
                            ),
                          ),
                        ),
                      ),
                    ),
                  ),
                ),
              ),
            ),
          ),
        ),
      ),
    ),
  ),
)
