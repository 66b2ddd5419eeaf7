-- A set of screens, in the order in which they are asked.
use Rattle.std.specs.Prelude.{◌≡◌, ◌≢◌, ℕ, ◌==◌, List, [], ◌∷◌, ◌++◌, Bool, All, Any, if◌then◌else◌}
use Rattle.std.specs.Str.{bytes_eq}
use Rattle.screen_kit.specs.declared.order.Order.{Order}
use Rattle.screen_kit.specs.Screens.{ScreenValue, code_for, judged}

-- the first code other than 0, and 0 where every screen gives 0
abbrev pub first_code : Order → List ScreenValue → ℕ
first_code order [] = 0
first_code order (screen ∷ later) =
    if code_for order screen == 0 then first_code order later else code_for order screen

-- the screens up to the first that refuses have judged the order, and each later one is as before
abbrev pub after_asking : Order → List ScreenValue → List ScreenValue
after_asking order [] = []
after_asking order (screen ∷ later) =
    judged order screen ∷ (if code_for order screen == 0 then after_asking order later else later)

-- one screen of the set has the name
abbrev pub HasName : List ℕ → List ScreenValue → Type 0
HasName name screens = Any (λ screen. screen.name ≡ name) screens

-- whether the screen has the name
abbrev pub is_named : List ℕ → ScreenValue → Bool
is_named name screen = bytes_eq screen.name name

-- the set without the first screen of the name; the same set where none has it
abbrev pub without_first : List ℕ → List ScreenValue → List ScreenValue
without_first name [] = []
without_first name (screen ∷ later) =
    if is_named name screen then later else screen ∷ without_first name later

-- the set loses the first screen of the name, and no other; the others keep their order
pub record LosesFirst (name : List ℕ) (old new : List ScreenValue) : Type 0 where
  pub before : List ScreenValue
  pub screen : ScreenValue
  pub later : List ScreenValue
  pub stood : old ≡ before ++ screen ∷ later
  pub left : new ≡ before ++ later
  pub named : screen.name ≡ name
  pub first : All (λ other. other.name ≢ name) before
