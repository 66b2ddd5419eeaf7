-- What a screen is, and what arming it and judging orders leave.
use Rattle.std.specs.Prelude.{◌≡◌, ℕ, List}
use Rattle.screen_kit.specs.declared.order.Order.{Order}
use Rattle.screen_kit.specs.declared.order.Terms.{Terms}

-- a screen: its name, the numbers that it keeps, and its three rules, which never change: what
-- it keeps once it is armed, its code for an order by what it keeps, and what it keeps after it
pub record ScreenValue : Type 0 where
  pub name : List ℕ
  pub kept : List ℕ
  pub opening : Terms → List ℕ
  pub code : List ℕ → Order → ℕ
  pub next : List ℕ → Order → List ℕ

-- the screen, by its name and its rules, that keeps these numbers
abbrev pub keeping : List ℕ → ScreenValue → ScreenValue
keeping kept screen = record screen { kept = kept }

-- the screen in its opening state
abbrev pub armed : Terms → ScreenValue → ScreenValue
armed terms screen = keeping (screen.opening terms) screen

-- the screen's code for an order: 0 lets it pass
abbrev pub code_for : Order → ScreenValue → ℕ
code_for order screen = screen.code screen.kept order

-- the screen after it judged an order
abbrev pub judged : Order → ScreenValue → ScreenValue
judged order screen = keeping (screen.next screen.kept order) screen

-- name and rules stay, whatever the screen keeps
abbrev pub IsSameScreen : ScreenValue → ScreenValue → Type 0
IsSameScreen old new = new ≡ keeping new.kept old
