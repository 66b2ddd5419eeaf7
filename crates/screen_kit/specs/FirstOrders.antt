-- A screen of a firm's own, which tests make: it lets so many first orders pass.
use Rattle.std.specs.Prelude.{ℕ, ◌+◌, List, [], ◌∷◌, codes, nat_lt, if◌then◌else◌}
use Rattle.screen_kit.specs.Screens.{ScreenValue}

-- 100 exactly where it has let the most orders pass
abbrev pub first_orders_code : ℕ → List ℕ → ℕ
first_orders_code most [] = 0
first_orders_code most (passed ∷ _) = if nat_lt passed most then 0 else 100

-- counts an order that it lets pass
abbrev pub first_orders_next : ℕ → List ℕ → List ℕ
first_orders_next most [] = []
first_orders_next most (passed ∷ _) = (if nat_lt passed most then passed + 1 else passed) ∷ []

-- keeps how many orders it has let pass
abbrev pub first_orders_screen : ℕ → ℕ → ScreenValue
first_orders_screen most passed = record {
  name = codes "first_orders";
  kept = passed ∷ [];
  opening = λ _. 0 ∷ [];
  code = λ kept _. first_orders_code most kept;
  next = λ kept _. first_orders_next most kept;
}
